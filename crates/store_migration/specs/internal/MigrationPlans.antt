-- The plan of a migration, before anything is written.
use Rattle.std.specs.Prelude.{◌≡◌, ℤ, FitsSigned, List, map, length, Vec, Result, Ok, Err}
use Rattle.std.specs.Int.{w64}
use Rattle.std.specs.declared.alloc.Global.{Global}
use Rattle.std.specs.List.Sorted.{IsPermutation}
use Rattle.sqlite.specs.Effect.{Database}
use Rattle.sqlite.specs.Order.{Row}
use Rattle.book_model.specs.Bounds.{Bounds}
use Rattle.store_tables.specs.Keeps.{KeepRow}
use Rattle.store_rows.specs.SoundTables.{HoldsWellFormed}
use Rattle.store_rows.specs.TableRows.{rows_in}
use Rattle.store_check.specs.OpenResults.{IsRowCheckResult}
use Rattle.store_check.specs.RowChecks.{AreWellStored}
use Rattle.store_schema.specs.FirstSchema.{IsFirstSchema, first_number}
use Rattle.store_schema.specs.declared.open_fault.OpenFault.{OpenFault}
use Rattle.store_migration.specs.internal.FirstRows.{HasOneSchemaNumber}
use Rattle.store_migration.specs.Migration.{IsMigrated}
use Rattle.store_migration.specs.InitialKeeps.{cells_of_keep, initial_keeps, initial_keep_rows}

-- the computed keeps, with which the rows are well stored; or the result of testing them
abbrev pub IsKeepsCheckResult : Bounds → List Row → List Row → List Row
    → Result (Vec Row Global) OpenFault
    → Type 0
IsKeepsCheckResult limits books members imports (Ok keeps) =
    (keeps.items ≡ initial_keep_rows books members)
    × AreWellStored limits books members imports (initial_keep_rows books members)
IsKeepsCheckResult limits books members imports (Err fault) =
    IsRowCheckResult limits books members imports (initial_keep_rows books members) (Err fault)

-- the row with the number of the first schema has an id, which SQLite can hold
pub record HasMetaId (db : Database) : Type 0 where
  pub id : ℤ
  pub one : HasOneSchemaNumber id first_number db
  pub fits : FitsSigned w64 id

-- The tables are of the first schema, these are the rows of the computed keeps, one for each book,
-- and the migrated tables hold well-formed books.
pub record IsMigrationPlan (limits : Bounds) (db : Database) (keeps : List Row) : Type 0 where
  pub first : IsFirstSchema db
  pub numbered : HasMetaId db
  pub keep_rows : List KeepRow
  pub returned : keeps ≡ map cells_of_keep keep_rows
  pub same : IsPermutation (initial_keeps (rows_in db.trees)) keep_rows
  pub count : length keeps ≡ length (db.trees 2)
  pub makes_well_formed : (new : Database) → IsMigrated db new → HoldsWellFormed limits new
