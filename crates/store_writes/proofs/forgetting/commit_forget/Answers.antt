-- One transaction forgets a book's tombstones up to a number, or nothing, and returns how many.
-- Given here: the way through four states, from before the transaction to after its end. The writes
-- inside commit nothing (`kept`), so a failed commit leaves the tables as they were before; and the
-- count is of the rows before the transaction (`dropped`).
-- `CommitLemmas` has what holds of any transaction.
-- A write between `forget_rows` and `commit` breaks `clean_mid` first.
use Rattle.std.proofs.Common.{rules, ◌≡◌, IsTrue, List, ℕ, pos, to_z, of_z}
use Rattle.std.proofs.Common.{w64, ◌∙◌}
use Rattle.std.proofs.Math.Facts.{to_z-of_z}
use Rattle.std.specs.FinMap as finite
use Rattle.std.specs.Prelude.{⊤}
use Rattle.store_writes.specs.AcceptedChanges.{AcceptsHeader}
use Rattle.sqlite.specs.Held.{state}
use Rattle.sqlite.specs.State.{State, HasCleanDisk, KeepsCommit}
use Rattle.book_model.specs.Books.{Books}
use Rattle.book_model.specs.Forgetting.{book_after_forget, dropped_row_count}
use Rattle.store_tables.specs.SchemaCreation.{HoldsInTx}
use Rattle.store_rows.specs.TableBooks.{HeaderRow, row_book, books_of, line_row}
use Rattle.store_rows.specs.TableRows.{TableRows}
use Rattle.store_writes.specs.TableChanges.{AreHeaderColumns, HasBookRow, HoldsBooks}
use Rattle.store_writes.proofs.CommitLemmas.{Block, begun_inside, clean_end, clean_mid}
use Rattle.store_writes.proofs.CommitLemmas.{commit_fail, done, survives_both, undone}
use Rattle.store_writes.proofs.CommitLemmas.{writes_fail}
use Rattle.store_writes.proofs.forgetting.commit_forget.Given as given
use Rattle.store_writes.proofs.forgetting.commit_forget.Goals as goal
use Rattle.store_writes.proofs.forgetting.commit_forget.Goals.{After-commit}

-- ---- what the clauses share

-- the states: before the transaction, at its start, and after its writes
module _ (g : given.Over) (c : After-commit g) where
  abbrev old : State
  old = state g.S.Store c.args.conn.now

  abbrev begun : State
  begun = state g.S.Store c.transaction-tx.result.conn.now

  abbrev mid : State
  mid = state g.S.Store c.forget_rows.new.tx.conn.now

abbrev made : TableRows → List ℕ → HeaderRow → ℕ → Books
made rows name header last = finite.insert (books_of rows) name
    (book_after_forget (row_book rows (line_row name header)) last)

-- the writes, given what the clauses are given
module _ (g : given.Over) (c : After-commit g) (rows : TableRows) (name : List ℕ) (header :
    HeaderRow) (last : ℕ) (line : HasBookRow (old g c).now rows name header)
    (upto_is : c.args.upto ≡ pos last) (columns :
    AreHeaderColumns (record header { horizon = last }) c.args.id c.args.numbers) where
  inside : IsTrue (begun g c).in_transaction
  inside = rw c.transaction-tx.ensures.begun

  there : HasBookRow (begun g c).now rows name header
  there = rw c.transaction-tx.ensures.begun line

  last_is : to_z w64 (of_z w64 c.args.upto) ≡ pos last
  last_is = to_z-of_z c.ranges.upto ∙ upto_is

  now_columns : AreHeaderColumns (record header { horizon = last }) (to_z w64 (of_z w64 c.args.id))
      c.args.numbers
  now_columns = record { id_is = to_z-of_z c.ranges.id ∙ columns.id_is; numbers = columns.numbers }

  left : HasCleanDisk (mid g c) → HoldsInTx (mid g c)
      (λ db. HoldsBooks db (made rows name header last))
  left first = c.in_ok-dropped.ensures.books_after rows name header first inside there last last_is
      now_columns

  kept : HasCleanDisk (mid g c) → KeepsCommit (begun g c) (mid g c)
  kept first = c.in_ok-dropped.ensures.keeps_commit header
      now_columns.id_is rows name first inside there

  dropped : HasCleanDisk (mid g c) → c.in_ok-dropped.dropped ≡ dropped_row_count
      (row_book rows (line_row name header)).members last
  dropped first = c.in_ok-dropped.ensures.dropped rows name header first inside there last last_is
      now_columns

-- the transaction, whose end the caller has as `last`
module _ (g : given.Over) (c : After-commit g) where
  abbrev block : (last : _) → c.commit.new.self.0 ≡ last → Block g.S.Store
  block last same = record {
    conn = c.args.conn.now;
    begun = c.transaction-tx.result.conn.now;
    mid = c.forget_rows.new.tx.conn.now;
    end = c.commit.new.self.0;
    last = last;
    begun_is = c.transaction-tx.ensures.begun;
    same = same;
  }

-- ---- the clauses

pub returns-in_err-commit-clause-atomic : goal.returns-in_err-commit-clause-atomic
returns-in_err-commit-clause-atomic g c header last upto_is columns rows name clean line =
    let p = (goal.at.returns-in_err-commit-clause-atomic g c).After-commit in
    let t = block g p c.conn-2-1.given.0 (search rules) in
    let first = clean_mid g.S.Store t _ c.commit.ensures.survives clean in
    undone g.S.Store t c.from_residual-in_err-commit.result c.in_err-commit.field-0.0
    (λ count db.
    (count ≡ dropped_row_count (row_book rows (line_row name header)).members last)
    × HoldsBooks db (made rows name header last)) (search rules)
    c.assert_no_pending_writes.ensures (kept g p rows name header last line upto_is columns first)
    (left g p rows name header last line upto_is columns first).inside
    (c.in_err-commit.ensures.err (clean_end g.S.Store t clean))

pub returns-clause-atomic : goal.returns-clause-atomic
returns-clause-atomic g c header last upto_is columns rows name clean line =
    let p = (goal.at.returns-clause-atomic g c).After-commit in
    let t = block g p c.conn-2-1.given.0 (search rules) in
    let first = clean_mid g.S.Store t _ c.commit.ensures.survives clean in
    let did = done g.S.Store t (λ db. HoldsBooks db (made rows name header last))
    (left g p rows name header last line upto_is columns first)
    (c.in_ok-commit.ensures.ok (clean_end g.S.Store t clean)).1 in
    ((dropped g p rows name header last line upto_is columns first, did.0), did.1, did.2)

pub returns-clause-survives : goal.returns-clause-survives
returns-clause-survives g c =
    let p = (goal.at.returns-clause-survives g c).After-commit in
    let t = block g p c.conn-2-1.given.0 (search rules) in
    survives_both g.S.Store t (λ _. ⊤) (λ _. tt) c.forget_rows.ensures.survives
    c.commit.ensures.survives

-- ---- errors

-- the writes failed
pub returns-in_err-dropped-clause-fails_from_outside :
    goal.returns-in_err-dropped-clause-fails_from_outside
returns-in_err-dropped-clause-fails_from_outside g c header last upto_is columns rows name accepts
    clean schema =
    let t : Block g.S.Store = record {
      conn = c.args.conn.now;
      begun = c.transaction-tx.result.conn.now;
      mid = c.forget_rows.new.tx.conn.now;
      end = c.drop-tx.new.self.0;
      last = c.conn-1.given.0;
      begun_is = c.transaction-tx.ensures.begun;
      same = search rules;
    } in
    let first = clean_mid g.S.Store t _ c.drop-tx.ensures.survives clean in
    let there : AcceptsHeader (state g.S.Store c.transaction-tx.result.conn.now).now rows name
    header = rw c.transaction-tx.ensures.begun accepts in
    writes_fail g.S.Store t c.from_residual.result c.in_err-dropped.field-0.0 (search rules) _
    c.drop-tx.ensures.survives c.schema-tables.ensures.live schema
    (λ named obeys. c.in_err-dropped.ensures.fails_from_outside rows name header
    (to_z-of_z c.ranges.id ∙ columns.id_is) there first (begun_inside g.S.Store t) named obeys)

-- the commit failed
pub returns-in_err-commit-clause-fails_from_outside :
    goal.returns-in_err-commit-clause-fails_from_outside
returns-in_err-commit-clause-fails_from_outside g c header last upto_is columns rows name accepts
    clean schema =
    let p = (goal.at.returns-in_err-commit-clause-fails_from_outside g c).After-commit in
    let t = block g p c.conn-2-1.given.0 (search rules) in
    let first = clean_mid g.S.Store t _ c.commit.ensures.survives clean in
    commit_fail g.S.Store t c.from_residual-in_err-commit.result c.in_err-commit.field-0.0
    (search rules) _ c.forget_rows.ensures.survives c.commit.ensures.survives first
    (left g p rows name header last accepts.line upto_is columns first).inside
    (c.in_err-commit.ensures.err (clean_end g.S.Store t clean))
