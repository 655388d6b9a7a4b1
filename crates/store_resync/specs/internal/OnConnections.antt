-- Definitions over connections, for private contracts, as in `store_tables`.
use Rattle.std.specs.Prelude.{ℕ, IfSome, List, Result, OnOk, IsTrue}
use Rattle.sqlite.specs.Held.{Held, state}
use Rattle.store_tables.specs.OnConnections.{Ghosts, HasCleanDisk, HoldsInTx, KeepsCommit, Survives}
use Rattle.store_rows.specs.TableRows.{TableRows}
use Rattle.store_writes.specs.OnConnections.{InTxWithBook, IsAtomic}
use Rattle.store_resync.specs.declared.planning.BookPlan.{BookPlan}
use Rattle.store_resync.specs.declared.stages.Stage.{Stage}
use Rattle.store_resync.specs.declared.stages.Stage.TheVariants.{Pairs}
use Rattle.store_resync.specs.internal.Changes as changes
use Rattle.store_resync.specs.internal.Changes.{HoldsMembers, HoldsStage, HoldsResync}
use Rattle.store_resync.specs.internal.Changes.{TreesHoldResync}
use Rattle.store_resync.specs.internal.Plans.{HasLegalRow}
use Rattle.store_resync.specs.internal.Stages.{header_before}

module _ {S : Type 0} (store : Ghosts S) (old new : Held S) where
  -- ---- one book

  -- inside a transaction, over tables that held the row of the plan before the stage, under a name;
  -- the UID of the renewed card is legal, and its text canonical
  abbrev pub InTxWithPlan : BookPlan → Stage → (TableRows → List ℕ → Type 0) → Type 0
  InTxWithPlan plan stage Then = IfSome plan.renewed HasLegalRow →
      InTxWithBook store old new (header_before stage plan) Then

  -- a success writes the members of the plan's book
  abbrev pub WritesMembersInTx : {T E : Type 0} → BookPlan → Stage → Result T E → Type 0
  WritesMembersInTx plan stage result = InTxWithPlan plan stage (λ rows name.
      OnOk result (HoldsInTx store new (λ db. HoldsMembers db rows name plan stage)))

  -- a success writes the stage for the plan's book
  abbrev pub WritesStageInTx : {T E : Type 0} → BookPlan → Stage → Result T E → Type 0
  WritesStageInTx plan stage result = InTxWithPlan plan stage (λ rows name.
      OnOk result (HoldsInTx store new (λ db. HoldsStage db rows name plan stage)))

  -- nothing is committed
  abbrev pub KeepsCommitWithPlan : BookPlan → Stage → Type 0
  KeepsCommitWithPlan plan stage =
      InTxWithPlan plan stage (λ rows name. KeepsCommit store old new)

  -- ---- all books

  -- inside a transaction, over tables that held the rows of the plans before the stage
  abbrev pub InTxWithPlans : List BookPlan → Stage → (TableRows → Type 0) → Type 0
  InTxWithPlans plans stage Then = (rows : TableRows) → HasCleanDisk store new →
      IsTrue old.in_transaction
      → changes.HasPlannedRows (state store old).now rows plans stage → Then rows

  -- nothing is committed
  abbrev pub KeepsCommitWithPlans : List BookPlan → Stage → Type 0
  KeepsCommitWithPlans plans stage =
      InTxWithPlans plans stage (λ rows. KeepsCommit store old new)

  -- A success commits both stages of all plans. A failure changes nothing, unless the connection
  -- was closed.
  abbrev pub CommitsResync : {T E : Type 0} → List BookPlan → Result T E → Type 0
  CommitsResync plans result = (rows : TableRows) → HasCleanDisk store new →
      changes.HasPlannedRows (state store old).now rows plans Pairs →
      IsAtomic store old new result (λ _ db. HoldsResync db rows plans)

  -- a crash leaves what it could leave before, or the one commit
  abbrev pub CommitsResyncOnce : List BookPlan → Type 0
  CommitsResyncOnce plans = (rows : TableRows) →
      changes.HasPlannedRows (state store old).now rows plans Pairs →
      Survives store old new (TreesHoldResync rows plans)
