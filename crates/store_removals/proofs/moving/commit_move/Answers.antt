-- One transaction writes a move in both of its books, or nothing.
-- Given here: the way through the states from before the transaction to after its end. The writes
-- inside commit nothing (`kept`), so both a failed write (`rollback_restores`) and a failed commit
-- (`failed_done`) leave the tables as they were before.
-- A write between `move_rows` and `commit` breaks `clean_mid` first.
use Rattle.std.proofs.Common.{rules, ◌≡◌, IsTrue, List, ℕ, true, Err, sym, subst}
use Rattle.store_tables.specs.Failures.{HasOutsideCause}
use Rattle.store_tables.proofs.FailureLemmas.{outside_later}
use Rattle.store_lookups.proofs.StoreFaultLemmas.{passed_cause}
use Rattle.store_writes.proofs.TransactionFaults.{commit_fails, error_faults, if_open, live_obeys}
use Rattle.store_writes.proofs.TransactionFaults.{outside_sooner}
use Rattle.std.specs.Prelude.{⊤}
use Rattle.sqlite.specs.Held.{state}
use Rattle.sqlite.specs.State.{State, HasCleanDisk, KeepsCommit, Survives}
use Rattle.sqlite.proofs.StateLemmas.{survives_then}
use Rattle.sqlite.proofs.Callers.{survives_begin}
use Rattle.book_model.specs.Books.{Books}
use Rattle.store_tables.proofs.SchemaCreationLemmas.{clean_before}
use Rattle.store_tables.proofs.TransactionLemmas.{rollback_restores}
use Rattle.store_rows.specs.TableRows.{TableRows}
use Rattle.store_writes.specs.TableChanges.{HoldsBooks, IsAtomic}
use Rattle.store_removals.specs.internal.Moves.{HasBothRows, table_books_after_move}
use Rattle.store_writes.proofs.ChangeLemmas.{committed_done, failed_done}
use Rattle.store_removals.proofs.moving.commit_move.Given as given
use Rattle.store_removals.proofs.moving.commit_move.Goals as goal
use Rattle.store_removals.proofs.moving.commit_move.Goals.{After-move_rows, After-commit}

-- ---- what the clauses share

-- the states: before the transaction, at its start, and after its writes
module _ (g : given.Over) (c : After-move_rows g) where
  abbrev old : State
  old = state g.S.Store c.args.conn.now

  abbrev begun : State
  begun = state g.S.Store c.transaction-tx.result.conn.now

  abbrev mid : State
  mid = state g.S.Store c.move_rows.new.tx.conn.now

  abbrev made : TableRows → List ℕ → List ℕ → Books
  made rows from to = table_books_after_move rows from c.args.source to c.args.target c.args.uid.now
      c.args.card.now c.args.drop

  inside : IsTrue begun.in_transaction
  inside = rw c.transaction-tx.ensures.begun

  there : (rows : TableRows) (from to : List ℕ) → HasBothRows old.now rows from c.args.source to
      c.args.target → HasBothRows begun.now rows from c.args.source to c.args.target
  there rows from to line = rw c.transaction-tx.ensures.begun line

-- and at its end
module _ (g : given.Over) (c : After-commit g) where
  abbrev writing : After-move_rows g
  writing = (goal.at.After-commit g c).After-move_rows

  abbrev end : State
  end = state g.S.Store c.commit.new.self.0

  clean_mid : HasCleanDisk end → HasCleanDisk (mid g writing)
  clean_mid late = clean_before _ (mid g writing) end c.commit.ensures.survives late

  survives : Survives (old g writing) end (λ _. ⊤)
  survives =
      let all = survives_then (begun g writing) (mid g writing) end _ _ (λ _. ⊤) (λ _ db none. tt)
      (λ _ db none. tt) c.move_rows.ensures.survives c.commit.ensures.survives in
      survives_begin g.S.Store c.args.conn.now end (λ _. ⊤) (rw c.transaction-tx.ensures.begun at
      all)

-- ---- the clauses

pub returns-in-Err-clause-atomic : goal.returns-in-Err-clause-atomic
returns-in-Err-clause-atomic g c legal text rows from to clean line =
    let p = (goal.at.returns-in-Err-clause-atomic g c).After-commit in
    let same : c.commit.new.self.0 ≡ c.conn-2-1.given.0 = search rules in
    let late : HasCleanDisk (end g p) =
    subst (λ k. HasCleanDisk (state g.S.Store k)) (sym same) clean in
    let first = clean_mid g p late in
    let both = there g (writing g p) rows from to line in
    let kept : KeepsCommit (state g.S.Store (record c.args.conn.now { in_transaction = true }))
    (mid g (writing g p)) = rw c.transaction-tx.ensures.begun at
    (c.in_ok-move_rows.ensures.keeps_commit rows from to first (inside g (writing g p)) both
    legal text) in
    subst (λ k. IsTrue (state g.S.Store k).is_open
    → ((state g.S.Store k).now ≡ (old g (writing g p)).now)
    × ((state g.S.Store k).now ≡ (state g.S.Store k).committed)) same
    (failed_done (state g.S.Store (record c.args.conn.now { in_transaction = true }))
    (mid g (writing g p)) (end g p) c.in-Err.error kept
    (c.in_ok-move_rows.ensures.books_after rows from to first (inside g (writing g p)) both legal
    text).inside (c.in-Err.ensures.err late) c.assert_no_pending_writes.ensures)

pub returns-in-Ok-clause-atomic : goal.returns-in-Ok-clause-atomic
returns-in-Ok-clause-atomic g c legal text rows from to clean line =
    let p = (goal.at.returns-in-Ok-clause-atomic g c).After-commit in
    let same : c.commit.new.self.0 ≡ c.conn-2-1.given.0 = search rules in
    let late : HasCleanDisk (end g p) =
    subst (λ k. HasCleanDisk (state g.S.Store k)) (sym same) clean in
    let left = c.in_ok-move_rows.ensures.books_after rows from to (clean_mid g p late)
    (inside g (writing g p)) (there g (writing g p) rows from to line) legal text in
    subst (λ k. HoldsBooks (state g.S.Store k).now (made g (writing g p) rows from to)
    × ((state g.S.Store k).now ≡ (state g.S.Store k).committed)
    × IsTrue (state g.S.Store k).is_open) same
    (committed_done (mid g (writing g p)) (end g p)
    (λ db. HoldsBooks db (made g (writing g p) rows from to)) left (c.in-Ok.ensures.ok late).1)

pub returns-in-Err-clause-survives : goal.returns-in-Err-clause-survives
returns-in-Err-clause-survives g c =
    let p = (goal.at.returns-in-Err-clause-survives g c).After-commit in
    let same : c.commit.new.self.0 ≡ c.conn-2-1.given.0 = search rules in
    subst (λ k. Survives (old g (writing g p)) (state g.S.Store k) (λ _. ⊤)) same (survives g p)

pub returns-in-Ok-clause-survives : goal.returns-in-Ok-clause-survives
returns-in-Ok-clause-survives g c =
    let p = (goal.at.returns-in-Ok-clause-survives g c).After-commit in
    let same : c.commit.new.self.0 ≡ c.conn-2-1.given.0 = search rules in
    subst (λ k. Survives (old g (writing g p)) (state g.S.Store k) (λ _. ⊤)) same (survives g p)

pub returns-in_err-move_rows-clause-atomic : goal.returns-in_err-move_rows-clause-atomic
returns-in_err-move_rows-clause-atomic g c legal text rows from to clean line =
    let p = (goal.at.returns-in_err-move_rows-clause-atomic g c).After-move_rows in
    let last = state g.S.Store c.drop-tx.new.self.0 in
    let same : c.drop-tx.new.self.0 ≡ c.conn-1.given.0 = search rules in
    let late : HasCleanDisk last = subst (λ k. HasCleanDisk (state g.S.Store k)) (sym same) clean in
    let first : HasCleanDisk (mid g p) =
    clean_before _ (mid g p) last c.drop-tx.ensures.survives late in
    let kept : KeepsCommit (state g.S.Store (record c.args.conn.now { in_transaction = true }))
    (mid g p) = rw c.transaction-tx.ensures.begun at (c.in_err-move_rows.ensures.keeps_commit
    rows from to first (inside g p) (there g p rows from to line) legal text) in
    let said : c.from_residual.result ≡ Err c.in_err-move_rows.field-0.0 = search rules in
    subst (λ r. IsAtomic (old g p) (state g.S.Store c.conn-1.given.0) r
    (λ _ db. HoldsBooks db (made g p rows from to))) (sym said)
    (subst (λ k. IsTrue (state g.S.Store k).is_open → ((state g.S.Store k).now ≡ (old g p).now)
    × ((state g.S.Store k).now ≡ (state g.S.Store k).committed)) same
    (rollback_restores (state g.S.Store (record c.args.conn.now { in_transaction = true }))
    (mid g p) last kept (c.drop-tx.ensures.undone late) c.assert_no_pending_writes.ensures))

-- ---- faults

-- the writes failed
pub returns-in_err-move_rows-clause-store_fault : goal.returns-in_err-move_rows-clause-store_fault
returns-in_err-move_rows-clause-store_fault g c from_fits to_fits drop_fits legal slim text rows
    from to clean lines accept free =
    let p = (goal.at.returns-in_err-move_rows-clause-store_fault g c).After-move_rows in
    let end = state g.S.Store c.drop-tx.new.self.0 in
    let same : c.drop-tx.new.self.0 ≡ c.conn-1.given.0 = search rules in
    let late : HasCleanDisk end = subst (λ k. HasCleanDisk (state g.S.Store k)) (sym same) clean in
    let early : HasCleanDisk (mid g p) =
    clean_before _ (mid g p) end c.drop-tx.ensures.survives late in
    let begun = c.transaction-tx.ensures.begun in
    passed_cause c.from_residual.result c.in_err-move_rows.field-0.0 _ c.from_residual.ensures.1
    (λ store. subst (λ k. HasOutsideCause (old g p) (state g.S.Store k)) same
    (if_open (old g p) end (λ up. outside_sooner (old g p) (mid g p) end _
    c.drop-tx.ensures.survives
    (rw begun at (c.in_err-move_rows.ensures.store_fault from_fits to_fits drop_fits legal slim text
    rows from to (there g p rows from to lines) accept (rw begun free) early (inside g p)
    (rw begun (live_obeys (old g p) c.schema-tables.ensures.live lines.holds.schema up)) store)))))

-- the commit failed
pub returns-in-Err-clause-store_fault : goal.returns-in-Err-clause-store_fault
returns-in-Err-clause-store_fault g c from_fits to_fits drop_fits legal slim text rows from to clean
    lines accept free =
    let p = (goal.at.returns-in-Err-clause-store_fault g c).After-commit in
    let w = writing g p in
    let same : c.commit.new.self.0 ≡ c.conn-2-1.given.0 = search rules in
    let late : HasCleanDisk (end g p) =
    subst (λ k. HasCleanDisk (state g.S.Store k)) (sym same) clean in
    let first = clean_mid g p late in
    let left = c.in_ok-move_rows.ensures.books_after rows from to first (inside g w)
    (there g w rows from to lines) legal text in
    error_faults c.in-Err.error c.fault_of.result _ c.fault_of.ensures.value
    (λ room. subst (λ k. HasOutsideCause (old g w) (state g.S.Store k)) same
    (let outside = outside_later (begun g w) (mid g w) (end g p) _ _ c.move_rows.ensures.survives
    first c.commit.ensures.survives
    (commit_fails (mid g w) (end g p) c.in-Err.error left.inside (c.in-Err.ensures.err late)
    room) in
    rw c.transaction-tx.ensures.begun at outside))
