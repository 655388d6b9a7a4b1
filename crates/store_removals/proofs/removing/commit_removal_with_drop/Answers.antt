-- One transaction writes a removal that makes its book forget, or nothing, also after a crash.
-- Given here: the way through four states, from before the transaction to after its end. The writes
-- inside commit nothing (`kept`), so a failed commit leaves the tables as they were before; and a
-- crash finds either those, or what the writes left (`crash`).
-- `CommitLemmas` has what holds of any transaction.
-- A write between `write_removal_with_drop` and `commit` breaks `clean_mid` first.
use Rattle.std.proofs.Common.{rules, ◌≡◌, ◌+◌, IsTrue, List, ℕ, pos, to_z}
use Rattle.std.proofs.Common.{of_z, w64, ◌∙◌, None}
use Rattle.std.proofs.Math.Facts.{to_z-of_z}
use Rattle.std.specs.FinMap as finite
use Rattle.std.specs.Prelude.{⊤}
use Rattle.store_writes.specs.AcceptedChanges.{AcceptsMemberOf}
use Rattle.sqlite.specs.Held.{state}
use Rattle.sqlite.specs.State.{State, HasCleanDisk, KeepsCommit, Survives}
use Rattle.book_model.specs.declared.change.RemovalReason.{RemovalReason}
use Rattle.book_model.specs.declared.change.Change.TheVariants.{TakesAway}
use Rattle.book_model.specs.Books.{Books}
use Rattle.book_model.specs.BookChanges.{book_with_row}
use Rattle.book_model.specs.Forgetting.{book_after_forget}
use Rattle.store_tables.specs.SchemaCreation.{HoldsInTx}
use Rattle.store_rows.specs.TableBooks.{HeaderRow, row_book, books_of, line_row}
use Rattle.store_rows.specs.TableRows.{TableRows}
use Rattle.store_rows.specs.Values.{IsLegalUid}
use Rattle.store_writes.specs.TableChanges.{AreHeaderColumns, HasBookRow, HoldsBooks}
use Rattle.store_writes.specs.TableChanges.{TreesHold}
use Rattle.store_removals.specs.internal.Removals.{header_after_drop}
use Rattle.store_writes.proofs.CommitLemmas.{Block, begun_inside, clean_end, clean_mid}
use Rattle.store_writes.proofs.CommitLemmas.{commit_fail, done, survives_both, undone}
use Rattle.store_writes.proofs.CommitLemmas.{writes_fail}
use Rattle.store_writes.proofs.HeldLemmas.{change_inside, trees_held}
use Rattle.store_removals.proofs.removing.commit_removal_with_drop.Given as given
use Rattle.store_removals.proofs.removing.commit_removal_with_drop.Goals as goal
use Rattle.store_removals.proofs.removing.commit_removal_with_drop.Goals.{After-commit}

-- ---- what the clauses share

-- the states: before the transaction, at its start, and after its writes
module _ (g : given.Over) (c : After-commit g) where
  abbrev old : State
  old = state g.S.Store c.args.conn.now

  abbrev begun : State
  begun = state g.S.Store c.transaction-tx.result.conn.now

  abbrev mid : State
  mid = state g.S.Store c.write_removal_with_drop.new.tx.conn.now

  abbrev made : TableRows → List ℕ → HeaderRow → RemovalReason → ℕ → Books
  made rows name header why last = finite.insert (books_of rows) name
      (book_after_forget (book_with_row (row_book rows (line_row name header)) c.args.uid.now
      (TakesAway why)) last)

-- the transaction, whose end the caller has as `last`
module _ (g : given.Over) (c : After-commit g) where
  abbrev block : (last : _) → c.commit.new.self.0 ≡ last → Block g.S.Store
  block last same = record {
    conn = c.args.conn.now;
    begun = c.transaction-tx.result.conn.now;
    mid = c.write_removal_with_drop.new.tx.conn.now;
    end = c.commit.new.self.0;
    last = last;
    begun_is = c.transaction-tx.ensures.begun;
    same = same;
  }

-- the writes, given what the clauses are given
module _ (g : given.Over) (c : After-commit g) (rows : TableRows) (name : List ℕ) (header :
    HeaderRow) (why : RemovalReason) (last : ℕ) (line : HasBookRow (old g c).now rows name header)
    (legal : IsLegalUid c.args.uid.now) (changed_is : c.args.changed ≡ pos (header.number + 1))
    (upto_is : c.args.upto ≡ pos last) (columns :
    AreHeaderColumns (header_after_drop why last header) c.args.id c.args.numbers) where
  inside : IsTrue (begun g c).in_transaction
  inside = rw c.transaction-tx.ensures.begun

  there : HasBookRow (begun g c).now rows name header
  there = rw c.transaction-tx.ensures.begun line

  id_is : to_z w64 (of_z w64 c.args.id) ≡ pos header.id
  id_is = to_z-of_z c.ranges.id ∙ columns.id_is

  left : HasCleanDisk (mid g c) → HoldsInTx (mid g c)
      (λ db. HoldsBooks db (made g c rows name header why last))
  left first =
      change_inside (mid g c) rows (pos header.id) (made g c rows name header why last)
      (c.in_ok-write_removal_with_drop.ensures.books_after header why last legal
      (to_z-of_z c.ranges.changed ∙ changed_is) (to_z-of_z c.ranges.upto
      ∙ upto_is) (record { id_is = id_is; numbers = columns.numbers }) rows name first inside
      there)

  kept : HasCleanDisk (mid g c) → KeepsCommit (begun g c) (mid g c)
  kept first = c.in_ok-write_removal_with_drop.ensures.keeps_commit header id_is rows name first
      inside there

  crash : (ended : _) (same : c.commit.new.self.0 ≡ ended)
      → Survives (old g c) (state g.S.Store ended) (TreesHold (made g c rows name header why last))
  crash ended same = survives_both g.S.Store (block g c ended same)
      (TreesHold (made g c rows name header why last))
      (λ first. trees_held (mid g c).now (made g c rows name header why last) (left first).holds)
      c.write_removal_with_drop.ensures.survives c.commit.ensures.survives

-- ---- the clauses

pub returns-in_err-commit-clause-atomic : goal.returns-in_err-commit-clause-atomic
returns-in_err-commit-clause-atomic g c header why last legal changed_is upto_is columns rows name
    clean line =
    let p = (goal.at.returns-in_err-commit-clause-atomic g c).After-commit in
    let t = block g p c.conn-2-1.given.0 (search rules) in
    let first = clean_mid g.S.Store t _ c.commit.ensures.survives clean in
    undone g.S.Store t c.from_residual-in_err-commit.result c.in_err-commit.field-0.0
    (λ _ db. HoldsBooks db (made g p rows name header why last)) (search rules)
    c.assert_no_pending_writes.ensures (kept g p rows name header why last line legal changed_is
    upto_is columns first)
    (left g p rows name header why last line legal changed_is upto_is columns first).inside
    (c.in_err-commit.ensures.err (clean_end g.S.Store t clean))

pub returns-clause-atomic : goal.returns-clause-atomic
returns-clause-atomic g c header why last legal changed_is upto_is columns rows name clean line =
    let p = (goal.at.returns-clause-atomic g c).After-commit in
    let t = block g p c.conn-2-1.given.0 (search rules) in
    let first = clean_mid g.S.Store t _ c.commit.ensures.survives clean in
    done g.S.Store t (λ db. HoldsBooks db (made g p rows name header why last))
    (left g p rows name header why last line legal changed_is upto_is columns first)
    (c.in_ok-commit.ensures.ok (clean_end g.S.Store t clean)).1

pub returns-clause-survives : goal.returns-clause-survives
returns-clause-survives g c =
    let p = (goal.at.returns-clause-survives g c).After-commit in
    let t = block g p c.conn-2-1.given.0 (search rules) in
    survives_both g.S.Store t (λ _. ⊤) (λ _. tt) c.write_removal_with_drop.ensures.survives
    c.commit.ensures.survives

pub returns-in_err-commit-clause-crash : goal.returns-in_err-commit-clause-crash
returns-in_err-commit-clause-crash g c header why last legal changed_is upto_is columns rows name
    line =
    let p = (goal.at.returns-in_err-commit-clause-crash g c).After-commit in
    crash g p rows name header why last line legal changed_is upto_is columns
    c.conn-2-1.given.0 (search rules)

pub returns-clause-crash : goal.returns-clause-crash
returns-clause-crash g c header why last legal changed_is upto_is columns rows name line =
    let p = (goal.at.returns-clause-crash g c).After-commit in
    crash g p rows name header why last line legal changed_is upto_is columns
    c.conn-2-1.given.0 (search rules)

-- ---- errors

-- the writes failed
pub returns-in_err-write_removal_with_drop-clause-fails_from_outside :
    goal.returns-in_err-write_removal_with_drop-clause-fails_from_outside
returns-in_err-write_removal_with_drop-clause-fails_from_outside g c header why last legal
    changed_is upto_is columns rows name accepts clean schema =
    let t : Block g.S.Store = record {
      conn = c.args.conn.now;
      begun = c.transaction-tx.result.conn.now;
      mid = c.write_removal_with_drop.new.tx.conn.now;
      end = c.drop-tx.new.self.0;
      last = c.conn-1.given.0;
      begun_is = c.transaction-tx.ensures.begun;
      same = search rules;
    } in
    let first = clean_mid g.S.Store t _ c.drop-tx.ensures.survives clean in
    let at : to_z w64 (of_z w64 c.args.changed) ≡ c.args.changed = to_z-of_z c.ranges.changed in
    let there : AcceptsMemberOf (state g.S.Store c.transaction-tx.result.conn.now).now rows name
    header c.args.uid.now (to_z w64 (of_z w64 c.args.changed)) None =
    rw c.transaction-tx.ensures.begun (rw at accepts) in
    writes_fail g.S.Store t c.from_residual.result c.in_err-write_removal_with_drop.field-0.0
    (search rules) _ c.drop-tx.ensures.survives c.schema-tables.ensures.live schema
    (λ named obeys. c.in_err-write_removal_with_drop.ensures.fails_from_outside rows name header
    (to_z-of_z c.ranges.id ∙ columns.id_is) there first (begun_inside g.S.Store t) named obeys)

-- the commit failed
pub returns-in_err-commit-clause-fails_from_outside :
    goal.returns-in_err-commit-clause-fails_from_outside
returns-in_err-commit-clause-fails_from_outside g c header why last legal changed_is upto_is columns
    rows name accepts clean schema =
    let p = (goal.at.returns-in_err-commit-clause-fails_from_outside g c).After-commit in
    let t = block g p c.conn-2-1.given.0 (search rules) in
    let first = clean_mid g.S.Store t _ c.commit.ensures.survives clean in
    commit_fail g.S.Store t c.from_residual-in_err-commit.result c.in_err-commit.field-0.0
    (search rules) _ c.write_removal_with_drop.ensures.survives c.commit.ensures.survives first
    (left g p rows name header why last accepts.book.line legal changed_is upto_is columns
    first).inside
    (c.in_err-commit.ensures.err (clean_end g.S.Store t clean))
