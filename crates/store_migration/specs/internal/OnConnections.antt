-- Definitions over connections, for private contracts, as in `store_tables`.
use Rattle.std.specs.Prelude.{ℤ, List, Result, OnOk}
use Rattle.sqlite.specs.declared.error.Error.{Error}
use Rattle.sqlite.specs.Effect.{Database}
use Rattle.sqlite.specs.Held.{Held, state}
use Rattle.sqlite.specs.Order.{Row}
use Rattle.sqlite.specs.State.{IsUnchanged}
use Rattle.sqlite.specs.Tree.{Trees}
use Rattle.book_model.specs.Bounds.{Bounds}
use Rattle.store_tables.specs.Failures as failures
use Rattle.store_tables.specs.OnConnections.{Ghosts}
use Rattle.store_tables.specs.Keeps.{KeepRow}
use Rattle.store_migration.specs.Migration as migration
use Rattle.store_migration.specs.internal.FirstRows as first
use Rattle.store_migration.specs.internal.MigrationPlans as plans
use Rattle.store_migration.specs.internal.MigrationWrites as writes

module _ {S : Type 0} (store : Ghosts S) (conn : Held S) where
  abbrev pub AreListedFirstRows : List Row → List Row → List Row → Type 0
  AreListedFirstRows = first.AreListedFirstRows (state store conn).now

  abbrev pub HasMetaId : Type 0
  HasMetaId = plans.HasMetaId (state store conn).now

  abbrev pub IsMigrationPlan : Bounds → List Row → Type 0
  IsMigrationPlan limits = plans.IsMigrationPlan limits (state store conn).now

  abbrev pub IsFirstWithId : ℤ → Type 0
  IsFirstWithId id = writes.IsFirstWithId id (state store conn).now

  abbrev pub AddsKeeps : List KeepRow → Database → Type 0
  AddsKeeps keep_rows = migration.AddsKeeps keep_rows (state store conn).now

  abbrev pub TreesAddKeeps : List KeepRow → Trees → Type 0
  TreesAddKeeps keep_rows = writes.TreesAddKeeps keep_rows (state store conn).now

module _ {S : Type 0} (store : Ghosts S) (old new : Held S) where
  abbrev pub GivenFirstSchema : Type 0 → Type 0
  GivenFirstSchema = first.GivenFirstSchema (state store old) (state store new)

  abbrev pub OnlyReadsFirstSchema : Type 0
  OnlyReadsFirstSchema = first.OnlyReadsFirstSchema (state store old) (state store new)

  -- a read of tables of the first schema that succeeds changes nothing
  abbrev pub UnchangedOnOkFirstSchema : {T E : Type 0} → Result T E → Type 0
  UnchangedOnOkFirstSchema result =
      GivenFirstSchema (OnOk result (IsUnchanged (state store old) (state store new)))

  -- a read of tables of the first schema fails only for lack of memory or for an outside cause
  abbrev pub FailsFromOutsideFirstSchema : {T : Type 0} → Result T Error → Type 0
  FailsFromOutsideFirstSchema result = GivenFirstSchema
      (failures.HasOutsideCauseOfError (state store old) (state store new) result)

  abbrev pub WroteKeeps : List KeepRow → Type 0
  WroteKeeps keep_rows = writes.WroteKeeps keep_rows (state store old) (state store new)

  abbrev pub CommitsKeeps : Result (Unit {0}) Error → (Database → Type 0) → Type 0
  CommitsKeeps = writes.CommitsKeeps (state store old) (state store new)
