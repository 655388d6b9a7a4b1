-- One transaction writes a resync of all books, or nothing, also after a crash.
-- Given here: the way through the states from before the transaction to after its end. The writes
-- inside commit nothing (`kept`), so both a failed write (`rollback_restores`) and a failed commit
-- (`failed_done`) leave the tables as they were before.
-- A write between `write_resync` and `commit` breaks `clean_mid` first.
use Rattle.std.proofs.Common.{rules, ◌≡◌, IsTrue, true, Err, sym, subst}
use Rattle.std.specs.Prelude.{⊤}
use Rattle.sqlite.specs.Held.{state}
use Rattle.sqlite.specs.State.{State, HasCleanDisk, KeepsCommit, Survives}
use Rattle.sqlite.proofs.StateLemmas.{survives_then}
use Rattle.sqlite.proofs.Callers.{survives_begin}
use Rattle.store_tables.proofs.SchemaCreationLemmas.{clean_before}
use Rattle.store_tables.proofs.TransactionLemmas.{rollback_restores}
use Rattle.store_rows.specs.TableRows.{TableRows}
use Rattle.store_writes.specs.TableChanges.{IsAtomic}
use Rattle.store_writes.proofs.ChangeLemmas.{committed_done, failed_done}
use Rattle.store_resync.specs.declared.stages.Stage.TheVariants.{Pairs}
use Rattle.store_resync.specs.internal.Changes.{HasPlannedRows, HoldsResync, TreesHoldResync}
use Rattle.store_resync.proofs.StageLemmas.{trees_hold}
use Rattle.store_resync.proofs.writing.commit_resync.Given as given
use Rattle.store_resync.proofs.writing.commit_resync.Goals as goal
use Rattle.store_resync.proofs.writing.commit_resync.Goals.{After-write_resync, After-commit}

-- ---- what the clauses share

-- the states: before the transaction, at its start, and after its writes
module _ (g : given.Over) (c : After-write_resync g) where
  abbrev old : State
  old = state g.S.Store c.args.conn.now

  abbrev begun : State
  begun = state g.S.Store c.transaction-tx.result.conn.now

  abbrev mid : State
  mid = state g.S.Store c.write_resync.new.tx.conn.now

  inside : IsTrue begun.in_transaction
  inside = rw c.transaction-tx.ensures.begun

  there : (rows : TableRows) → HasPlannedRows old.now rows c.args.plans.now Pairs
      → HasPlannedRows begun.now rows c.args.plans.now Pairs
  there rows planned = rw c.transaction-tx.ensures.begun planned

-- and at its end
module _ (g : given.Over) (c : After-commit g) where
  abbrev writing : After-write_resync g
  writing = (goal.at.After-commit g c).After-write_resync

  abbrev end : State
  end = state g.S.Store c.commit.new.self.0

  clean_mid : HasCleanDisk end → HasCleanDisk (mid g writing)
  clean_mid late = clean_before _ (mid g writing) end c.commit.ensures.survives late

  survives : Survives (old g writing) end (λ _. ⊤)
  survives =
      let all = survives_then (begun g writing) (mid g writing) end _ _ (λ _. ⊤) (λ _ db none. tt)
      (λ _ db none. tt) c.write_resync.ensures.survives c.commit.ensures.survives in
      survives_begin g.S.Store c.args.conn.now end (λ _. ⊤) (rw c.transaction-tx.ensures.begun at
      all)

  crash : (rows : TableRows) → HasPlannedRows (old g writing).now rows c.args.plans.now Pairs
      → Survives (old g writing) end (TreesHoldResync rows c.args.plans.now)
  crash rows planned =
      let holds = TreesHoldResync rows c.args.plans.now in
      let all = survives_then (begun g writing) (mid g writing) end _ _ holds
      (λ _ db none. absurd none)
      (λ clean db trees. subst holds (sym trees) (trees_hold (mid g writing).now rows
      c.args.plans.now (c.in_ok-write_resync.ensures.resynced rows (clean_mid clean)
      (inside g writing) (there g writing rows planned)).holds))
      c.write_resync.ensures.survives c.commit.ensures.survives in
      survives_begin g.S.Store c.args.conn.now end holds (rw c.transaction-tx.ensures.begun at all)

-- ---- the clauses

pub returns-in-Err-clause-crash : goal.returns-in-Err-clause-crash
returns-in-Err-clause-crash g c rows planned =
    let p = (goal.at.returns-in-Err-clause-crash g c).After-commit in
    let same : c.commit.new.self.0 ≡ c.conn-2-1.given.0 = search rules in
    subst (λ k. Survives (old g (writing g p)) (state g.S.Store k)
    (TreesHoldResync rows c.args.plans.now)) same (crash g p rows planned)

pub returns-in-Ok-clause-crash : goal.returns-in-Ok-clause-crash
returns-in-Ok-clause-crash g c rows planned =
    let p = (goal.at.returns-in-Ok-clause-crash g c).After-commit in
    let same : c.commit.new.self.0 ≡ c.conn-2-1.given.0 = search rules in
    subst (λ k. Survives (old g (writing g p)) (state g.S.Store k)
    (TreesHoldResync rows c.args.plans.now)) same (crash g p rows planned)

pub returns-in-Err-clause-atomic : goal.returns-in-Err-clause-atomic
returns-in-Err-clause-atomic g c rows clean planned =
    let p = (goal.at.returns-in-Err-clause-atomic g c).After-commit in
    let same : c.commit.new.self.0 ≡ c.conn-2-1.given.0 = search rules in
    let late : HasCleanDisk (end g p) =
    subst (λ k. HasCleanDisk (state g.S.Store k)) (sym same) clean in
    let first = clean_mid g p late in
    let both = there g (writing g p) rows planned in
    let kept : KeepsCommit (state g.S.Store (record c.args.conn.now { in_transaction = true }))
    (mid g (writing g p)) = rw c.transaction-tx.ensures.begun at
    (c.in_ok-write_resync.ensures.keeps_commit rows first (inside g (writing g p)) both) in
    subst (λ k. IsTrue (state g.S.Store k).is_open
    → ((state g.S.Store k).now ≡ (old g (writing g p)).now)
    × ((state g.S.Store k).now ≡ (state g.S.Store k).committed)) same
    (failed_done (state g.S.Store (record c.args.conn.now { in_transaction = true }))
    (mid g (writing g p)) (end g p) c.in-Err.error kept
    (c.in_ok-write_resync.ensures.resynced rows first (inside g (writing g p)) both).inside
    (c.in-Err.ensures.err late) c.assert_no_pending_writes.ensures)

pub returns-in-Ok-clause-atomic : goal.returns-in-Ok-clause-atomic
returns-in-Ok-clause-atomic g c rows clean planned =
    let p = (goal.at.returns-in-Ok-clause-atomic g c).After-commit in
    let same : c.commit.new.self.0 ≡ c.conn-2-1.given.0 = search rules in
    let late : HasCleanDisk (end g p) =
    subst (λ k. HasCleanDisk (state g.S.Store k)) (sym same) clean in
    let left = c.in_ok-write_resync.ensures.resynced rows (clean_mid g p late)
    (inside g (writing g p)) (there g (writing g p) rows planned) in
    subst (λ k. HoldsResync (state g.S.Store k).now rows c.args.plans.now
    × ((state g.S.Store k).now ≡ (state g.S.Store k).committed)
    × IsTrue (state g.S.Store k).is_open) same
    (committed_done (mid g (writing g p)) (end g p) (λ db. HoldsResync db rows c.args.plans.now)
    left (c.in-Ok.ensures.ok late).1)

pub returns-in-Err-clause-survives : goal.returns-in-Err-clause-survives
returns-in-Err-clause-survives g c =
    let p = (goal.at.returns-in-Err-clause-survives g c).After-commit in
    let same : c.commit.new.self.0 ≡ c.conn-2-1.given.0 = search rules in
    subst (λ k. Survives (old g (writing g p)) (state g.S.Store k) (λ _. ⊤)) same (survives g p)

pub returns-in-Ok-clause-survives : goal.returns-in-Ok-clause-survives
returns-in-Ok-clause-survives g c =
    let p = (goal.at.returns-in-Ok-clause-survives g c).After-commit in
    let same : c.commit.new.self.0 ≡ c.conn-2-1.given.0 = search rules in
    subst (λ k. Survives (old g (writing g p)) (state g.S.Store k) (λ _. ⊤)) same (survives g p)

pub returns-in_err-write_resync-clause-atomic : goal.returns-in_err-write_resync-clause-atomic
returns-in_err-write_resync-clause-atomic g c rows clean planned =
    let p = (goal.at.returns-in_err-write_resync-clause-atomic g c).After-write_resync in
    let last = state g.S.Store c.drop-tx.new.self.0 in
    let same : c.drop-tx.new.self.0 ≡ c.conn-1.given.0 = search rules in
    let late : HasCleanDisk last = subst (λ k. HasCleanDisk (state g.S.Store k)) (sym same) clean in
    let first : HasCleanDisk (mid g p) =
    clean_before _ (mid g p) last c.drop-tx.ensures.survives late in
    let kept : KeepsCommit (state g.S.Store (record c.args.conn.now { in_transaction = true }))
    (mid g p) = rw c.transaction-tx.ensures.begun at (c.in_err-write_resync.ensures.keeps_commit
    rows first (inside g p) (there g p rows planned)) in
    let said : c.from_residual.result ≡ Err c.in_err-write_resync.field-0.0 = search rules in
    subst (λ r. IsAtomic (old g p) (state g.S.Store c.conn-1.given.0) r (λ _ db. HoldsResync db rows
    c.args.plans.now)) (sym said)
    (subst (λ k. IsTrue (state g.S.Store k).is_open → ((state g.S.Store k).now ≡ (old g p).now)
    × ((state g.S.Store k).now ≡ (state g.S.Store k).committed)) same
    (rollback_restores (state g.S.Store (record c.args.conn.now { in_transaction = true }))
    (mid g p) last kept (c.drop-tx.ensures.undone late) c.assert_no_pending_writes.ensures))
