-- One transaction creates an empty book, with its row and its keep, or nothing, also after a crash.
-- Given here: the way through four states, from before the transaction to after its end. The writes
-- inside commit nothing (`kept`), so a failed commit leaves the tables as they were before. What is
-- asked of the rows is that no book has the name (`LacksBookRow`).
-- `CommitLemmas` has what holds of any transaction.
-- A write between `insert_book_rows` and `commit` breaks `clean_mid` first.
use Rattle.std.proofs.Common.{rules, ◌≡◌, IsTrue, ℕ, pos, ◌∙◌}
use Rattle.std.proofs.Common.{to_z, of_z, w64}
use Rattle.std.proofs.Math.Facts.{to_z-of_z}
use Rattle.std.specs.FinMap as finite
use Rattle.std.specs.Prelude.{⊤}
use Rattle.store_inserts.specs.internal.Creating.{AcceptsNewBook}
use Rattle.sqlite.specs.Held.{state}
use Rattle.sqlite.specs.State.{State, HasCleanDisk, KeepsCommit}
use Rattle.book_model.specs.Books.{Books, fresh_book}
use Rattle.store_tables.specs.SchemaCreation.{HoldsInTx}
use Rattle.store_rows.specs.TableBooks.{books_of}
use Rattle.store_rows.specs.TableRows.{TableRows}
use Rattle.store_writes.specs.TableChanges.{HoldsBooks, LacksBookRow}
use Rattle.store_writes.proofs.CommitLemmas.{Block, begun_inside, clean_end, clean_mid}
use Rattle.store_writes.proofs.CommitLemmas.{commit_fail, done, survives_both, undone}
use Rattle.store_writes.proofs.CommitLemmas.{writes_fail}
use Rattle.store_inserts.proofs.creating.commit_create.Given as given
use Rattle.store_inserts.proofs.creating.commit_create.Goals as goal
use Rattle.store_inserts.proofs.creating.commit_create.Goals.{After-commit}

-- ---- what the clauses share

-- the states: before the transaction, at its start, and after its writes
module _ (g : given.Over) (c : After-commit g) where
  abbrev old : State
  old = state g.S.Store c.args.conn.now

  abbrev begun : State
  begun = state g.S.Store c.transaction-tx.result.conn.now

  abbrev mid : State
  mid = state g.S.Store c.insert_book_rows.new.tx.conn.now

  abbrev made : TableRows → ℕ → ℕ → Books
  made rows book most = finite.insert (books_of rows) c.args.name.now (fresh_book book most)

-- the writes, given what the clauses are given
module _ (g : given.Over) (c : After-commit g) (rows : TableRows) (line :
    LacksBookRow (old g c).now rows c.args.name.now) where
  inside : IsTrue (begun g c).in_transaction
  inside = rw c.transaction-tx.ensures.begun

  there : LacksBookRow (begun g c).now rows c.args.name.now
  there = rw c.transaction-tx.ensures.begun line

  left : (book most : ℕ) → c.args.id ≡ pos book → c.args.keep ≡ pos most → HasCleanDisk (mid g c)
      → HoldsInTx (mid g c) (λ db. HoldsBooks db (made g c rows book most))
  left book most id_is keep_is first =
      c.in_ok-insert_book_rows.ensures.books_after book most (to_z-of_z c.ranges.id
      ∙ id_is) (to_z-of_z c.ranges.keep ∙ keep_is) rows first inside there

  kept : HasCleanDisk (mid g c) → KeepsCommit (begun g c) (mid g c)
  kept first = c.in_ok-insert_book_rows.ensures.keeps_commit
      rows first inside there

-- the transaction, whose end the caller has as `last`
module _ (g : given.Over) (c : After-commit g) where
  abbrev block : (last : _) → c.commit.new.self.0 ≡ last → Block g.S.Store
  block last same = record {
    conn = c.args.conn.now;
    begun = c.transaction-tx.result.conn.now;
    mid = c.insert_book_rows.new.tx.conn.now;
    end = c.commit.new.self.0;
    last = last;
    begun_is = c.transaction-tx.ensures.begun;
    same = same;
  }

-- ---- the clauses

pub returns-in_err-commit-clause-atomic : goal.returns-in_err-commit-clause-atomic
returns-in_err-commit-clause-atomic g c book most id_is keep_is rows clean line =
    let p = (goal.at.returns-in_err-commit-clause-atomic g c).After-commit in
    let t = block g p c.conn-2-1.given.0 (search rules) in
    let first = clean_mid g.S.Store t _ c.commit.ensures.survives clean in
    undone g.S.Store t c.from_residual-in_err-commit.result c.in_err-commit.field-0.0
    (λ _ db. HoldsBooks db (made g p rows book most)) (search rules)
    c.assert_no_pending_writes.ensures (kept g p rows line first)
    (left g p rows line book most id_is keep_is first).inside
    (c.in_err-commit.ensures.err (clean_end g.S.Store t clean))

pub returns-clause-atomic : goal.returns-clause-atomic
returns-clause-atomic g c book most id_is keep_is rows clean line =
    let p = (goal.at.returns-clause-atomic g c).After-commit in
    let t = block g p c.conn-2-1.given.0 (search rules) in
    let first = clean_mid g.S.Store t _ c.commit.ensures.survives clean in
    done g.S.Store t (λ db. HoldsBooks db (made g p rows book most))
    (left g p rows line book most id_is keep_is first)
    (c.in_ok-commit.ensures.ok (clean_end g.S.Store t clean)).1

pub returns-clause-survives : goal.returns-clause-survives
returns-clause-survives g c =
    let p = (goal.at.returns-clause-survives g c).After-commit in
    let t = block g p c.conn-2-1.given.0 (search rules) in
    survives_both g.S.Store t (λ _. ⊤) (λ _. tt) c.insert_book_rows.ensures.survives
    c.commit.ensures.survives

-- ---- errors

-- the writes failed
pub returns-in_err-insert_book_rows-clause-fails_from_outside :
    goal.returns-in_err-insert_book_rows-clause-fails_from_outside
returns-in_err-insert_book_rows-clause-fails_from_outside g c book most id_is keep_is rows accepts
    clean schema =
    let t : Block g.S.Store = record {
      conn = c.args.conn.now;
      begun = c.transaction-tx.result.conn.now;
      mid = c.insert_book_rows.new.tx.conn.now;
      end = c.drop-tx.new.self.0;
      last = c.conn-1.given.0;
      begun_is = c.transaction-tx.ensures.begun;
      same = search rules;
    } in
    let first = clean_mid g.S.Store t _ c.drop-tx.ensures.survives clean in
    let at : to_z w64 (of_z w64 c.args.id) ≡ c.args.id = to_z-of_z c.ranges.id in
    let there : AcceptsNewBook (state g.S.Store c.transaction-tx.result.conn.now).now rows
    (to_z w64 (of_z w64 c.args.id)) c.args.name.now =
    rw c.transaction-tx.ensures.begun (rw at accepts) in
    writes_fail g.S.Store t c.from_residual.result c.in_err-insert_book_rows.field-0.0
    (search rules) _ c.drop-tx.ensures.survives c.schema-tables.ensures.live schema
    (λ named obeys. c.in_err-insert_book_rows.ensures.fails_from_outside rows there first
    (begun_inside g.S.Store t) named obeys)

-- the commit failed
pub returns-in_err-commit-clause-fails_from_outside :
    goal.returns-in_err-commit-clause-fails_from_outside
returns-in_err-commit-clause-fails_from_outside g c book most id_is keep_is rows accepts clean
    schema =
    let p = (goal.at.returns-in_err-commit-clause-fails_from_outside g c).After-commit in
    let t = block g p c.conn-2-1.given.0 (search rules) in
    let first = clean_mid g.S.Store t _ c.commit.ensures.survives clean in
    commit_fail g.S.Store t c.from_residual-in_err-commit.result c.in_err-commit.field-0.0
    (search rules) _ c.insert_book_rows.ensures.survives c.commit.ensures.survives first
    (left g p rows accepts.lacks book most id_is keep_is first).inside
    (c.in_err-commit.ensures.err (clean_end g.S.Store t clean))
