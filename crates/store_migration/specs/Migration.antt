-- The contract of the migration from the first schema to the second.
use Rattle.std.specs.Prelude.{◌≡◌, ⊤, ℕ, List, length, Option, Result, Err, IfErr, IsTrue}
use Rattle.std.specs.List.{AllByRecursion}
use Rattle.sqlite.specs.Effect.{Database}
use Rattle.sqlite.specs.declared.error.Error.{Error}
use Rattle.sqlite.specs.declared.file.Leftover.{Leftover}
use Rattle.sqlite.specs.Files.{image_of}
use Rattle.sqlite.specs.Order.{Row}
use Rattle.sqlite.specs.Recovery.{Image}
use Rattle.sqlite.specs.Start.{FindsIn}
use Rattle.sqlite.specs.State.{State, HasCleanDisk, Survives}
use Rattle.sqlite.specs.Tree.{Trees, rowid}
use Rattle.sqlite_disk.specs.declared.Disk.{Ghosts}
use Rattle.sqlite_disk.specs.declared.Files.{Files}
use Rattle.sqlite_trees.specs.View.{is_int}
use Rattle.book_model.specs.Bounds.{Bounds}
use Rattle.store_tables.specs.Keeps.{KeepRow, HoldKeeps}
use Rattle.store_tables.specs.Meta.{schema_number}
use Rattle.store_tables.specs.Tables.{ObeyTables, book_schema, meta_tree}
use Rattle.store_rows.specs.SoundTables.{HoldsWellFormed}
use Rattle.store_rows.specs.TableRows.{rows_in}
use Rattle.store_check.specs.OpenResults.{max_limits}
use Rattle.store_migration.specs.InitialKeeps.{initial_keeps}
use Rattle.store_schema.specs.FileFaults.{IsFileFault, IsFileRefusal, IsLeftOf}
use Rattle.store_schema.specs.FirstSchema.{IsFirstSchema, ClassifiesFirstSchema}
use Rattle.store_schema.specs.OpenFaults.{ComesFromOutside}
use Rattle.store_schema.specs.StoredSchema.{HasSchemaNumber}
use Rattle.store_schema.specs.declared.open_fault.OpenFault.{OpenFault}
use Rattle.store_schema.specs.declared.open_fault.OpenFault.TheVariants.{Store, NotOurs}
use Rattle.store_schema.specs.declared.open_fault.OpenFault.TheVariants.{OtherSchema, Damaged}
use Rattle.store_schema.specs.declared.open_fault.OpenFault.TheVariants.{NotEmpty, Memory}

-- ---- the tables after it

-- The tables are of the second schema and have these keeps. All rows of books, members and imports
-- are unchanged.
pub record AddsKeeps (keeps : List KeepRow) (old new : Database) : Type 0 where
  pub schema : new.schema ≡ book_schema
  pub obeys : ObeyTables new.trees
  pub meta : HasSchemaNumber schema_number new
  pub books : new.trees 2 ≡ old.trees 2
  pub members : new.trees 4 ≡ old.trees 4
  pub imports : new.trees 7 ≡ old.trees 7
  pub keeps_are : HoldKeeps (new.trees 9) keeps

-- the same, with the computed keep of each book
abbrev pub IsMigrated : Database → Database → Type 0
IsMigrated old new = AddsKeeps (initial_keeps (rows_in old.trees)) old new

-- The trees that a crash leaves after the one commit: those of the whole migration, over tables of
-- the first schema.
pub record CommitsMigration (limits : Bounds) (old : Database) (trees : Trees) : Type 0 where
  pub first : IsFirstSchema old
  pub migrated : IsMigrated old (record { schema = book_schema; trees = trees })
  pub well_formed : HoldsWellFormed limits (record { schema = book_schema; trees = trees })

-- The files held tables of the first schema when they were opened. Now they hold those of the
-- migration, committed, and the count is the number of books. A crash leaves what it could leave at
-- the start, or the whole migration.
pub record MigratesFrom
    {Connection : Type 0} (state_of : Connection → State) (image : Image) (count : ℕ)
    (new : Connection) : Type 0 where
  pub start : Connection
  pub found : FindsIn image (state_of start)
  pub was_committed : (state_of start).now ≡ (state_of start).committed
  pub first : IsFirstSchema (state_of start).now
  pub migrated : IsMigrated (state_of start).now (state_of new).now
  pub well_formed : HoldsWellFormed max_limits (state_of new).now
  pub committed : (state_of new).now ≡ (state_of new).committed
  pub count_is : count ≡ length ((state_of start).now.trees 2)
  pub crash : Survives (state_of start) (state_of new)
      (CommitsMigration max_limits (state_of start).now)

-- ---- why tables are not migrated

-- The error is right for the tables: they are not of the first schema; or they are, but no
-- migration of them holds well-formed books (`Damaged`). A fault of the database can replace each.
abbrev pub IsMigrationRefusal : Bounds → Database → OpenFault → Type 0
IsMigrationRefusal limits db Store = ⊤
IsMigrationRefusal limits db NotOurs = ClassifiesFirstSchema db (Err NotOurs)
IsMigrationRefusal limits db (OtherSchema has) = ClassifiesFirstSchema db (Err (OtherSchema has))
IsMigrationRefusal limits db Damaged =
    IsFirstSchema db × ((new : Database) → IsMigrated db new → ¬ HoldsWellFormed limits new)
IsMigrationRefusal limits db NotEmpty = ⊥
IsMigrationRefusal limits db Memory = ⊤

-- a migration of the tables would hold well-formed books
abbrev pub MigratesWellFormed : Bounds → Database → Type 0
MigratesWellFormed limits db = (new : Database) × IsMigrated db new × HoldsWellFormed limits new

-- ---- why tables that can be migrated are not

-- each row has an id that is a number, as each row in a file has
abbrev pub HaveRowIds : List Row → Type 0
HaveRowIds = AllByRecursion (λ r. IsTrue (is_int (rowid r)))

-- the tables are of the first schema, and a migration of them would hold well-formed books
pub record CanMigrate (limits : Bounds) (db : Database) : Type 0 where
  pub first : IsFirstSchema db
  pub ids : HaveRowIds (db.trees meta_tree)
  pub migrates : MigratesWellFormed limits db

-- If the tables can be migrated, an error comes only for lack of memory, or is `Store` with a cause
-- outside the tables.
abbrev pub MigrationFailsFromOutside :
    {T : Type 0} → Bounds → State → State → Result T OpenFault → Type 0
MigrationFailsFromOutside limits old new result = HasCleanDisk new → CanMigrate limits old.now →
    IfErr result (ComesFromOutside old new)

-- ---- why files are not migrated

module _ {D : Type 0} {g : Ghosts D} where
  -- Opening a connection over files failed with the error, and the fault is right for them. First
  -- `old` was left of them, and now `new`.
  abbrev pub IsFaultAfter : Error → Leftover D g → Leftover D g → OpenFault → Type 0
  IsFaultAfter error old new fault =
      (files : Files D) → IsLeftOf files error old → IsFileFault (image_of g files) new
      ClassifiesFirstSchema (MigratesWellFormed max_limits) fault

  -- The fault of migrating files is that of the database if none were opened. Otherwise it is right
  -- for files with these bytes, of which this is left.
  abbrev pub IsFileMigrationRefusal : Image → OpenFault → Option (Leftover D g) → Type 0
  IsFileMigrationRefusal image =
      IsFileRefusal image ClassifiesFirstSchema (MigratesWellFormed max_limits)
