-- The results of creating and opening a store.
use Rattle.std.specs.Prelude.{◌≡◌, Bool, IsTrue, Err, false, true}
use Rattle.sqlite.specs.Held.{Held, state}
use Rattle.sqlite.specs.Recovery.{Image}
use Rattle.sqlite.specs.Start.{FindsIn}
use Rattle.sqlite.specs.State.{State, HasCleanDisk, Survives}
use Rattle.sqlite.specs.Tree.{Trees}
use Rattle.sqlite_trees.specs.declared.store.Store.{Ghosts}
use Rattle.store_tables.specs.Meta.{IsEmptyStore, schema_number}
use Rattle.store_tables.specs.Tables.{book_schema}
use Rattle.store_rows.specs.SoundTables.{HoldsWellFormed}
use Rattle.store_schema.specs.OpenFaults.{ComesFromOutside}
use Rattle.store_schema.specs.StoredSchema.{ChangesNothing}
use Rattle.store_schema.specs.declared.open_fault.OpenFault.{OpenFault}
use Rattle.store_schema.specs.declared.open_fault.OpenFault.TheVariants.{Store, NotEmpty, Memory}
use Rattle.store_tables.specs.SchemaCreation.{empty_schema}
use Rattle.store_check.specs.OpenResults.{IsOpenResult, max_limits}
use Rattle.book_store.specs.PageSums.{IsNewFile}

-- ---- new stores

-- the tables were just created, and are committed, and the connection is open
pub record IsNewStoreCommitted (s : State) : Type 0 where
  pub is_open : IsTrue s.is_open
  pub created : IsEmptyStore schema_number s.now
  pub committed : s.now ≡ s.committed

-- the trees of tables that were just created
abbrev pub AreNewStoreTrees : Trees → Type 0
AreNewStoreTrees trees = IsEmptyStore schema_number (record { schema = book_schema; trees = trees })

-- The database failed while the tables were created, over a connection without tables. It shows
-- what it showed before, unless the connection was closed. A crash leaves what it could leave
-- before, or the created tables.
pub record FailsToCreate (old new : State) : Type 0 where
  pub was_empty : old.now.schema ≡ empty_schema
  pub settled : new.in_transaction ≡ false
  pub unchanged : HasCleanDisk new → IsTrue new.is_open → new.now ≡ old.now
  pub crash : Survives old new AreNewStoreTrees

-- Why no store was created, with the connection before and after: it had tables and is the same
-- connection, or the database failed.
abbrev pub IsCreationRefusal :
    {S : Type 0} → Ghosts S → Held S → Held S → OpenFault → Type 0
IsCreationRefusal g old new NotEmpty = ¬ (old.schema ≡ empty_schema) × (new ≡ old)
IsCreationRefusal g old new Store = FailsToCreate (state g old) (state g new)
IsCreationRefusal g old new Memory = FailsToCreate (state g old) (state g new)
IsCreationRefusal g old new fault = ⊥

-- ---- new stores in files

-- The files held a database without tables when they were opened. Then the tables were created: a
-- crash leaves what it could leave at the start, or the created tables. If the files were new, each
-- page has a sum: `has_sums` says whether a connection's file has them.
pub record StartsWithoutTables
    {Connection : Type 0} (state_of : Connection → State) (has_sums : Connection → Bool)
    (image : Image) (new : Connection)
    : Type 0 where
  pub start : Connection
  pub found : FindsIn image (state_of start)
  pub was_empty : (state_of start).now.schema ≡ empty_schema
  pub sums : IsNewFile image → has_sums start ≡ true
  pub crash : Survives (state_of start) (state_of new) AreNewStoreTrees

-- ---- existing tables

-- No store was opened: nothing was changed. If the disk has returned what was written, the fault is
-- right for the tables; and if they hold well-formed books, it comes from outside them.
pub record IsOpenRefusal {S : Type 0} (g : Ghosts S) (old new : Held S) (fault : OpenFault)
    : Type 0 where
  pub left_unchanged : ChangesNothing (state g old) (state g new)
  pub right_fault : HasCleanDisk (state g new)
      → IsOpenResult max_limits (state g old).now (Err fault)
  pub from_outside : HasCleanDisk (state g new) → HoldsWellFormed max_limits (state g old).now
      → ComesFromOutside (state g old) (state g new) fault

-- the same, and the connection was dropped then
abbrev pub DropsRefused : {S : Type 0} → Ghosts S → Held S → OpenFault → Type 0
DropsRefused {S} g old fault = (dropped : Held S) × IsOpenRefusal g old dropped fault
