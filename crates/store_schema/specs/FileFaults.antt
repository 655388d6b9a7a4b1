-- Why a store in files is refused, by what the files held.
use Rattle.std.specs.Prelude.{◌⊎◌, ⊤, Option, Some, None, Result, Ok, Err}
use Rattle.sqlite.specs.declared.error.Error.{Error}
use Rattle.sqlite.specs.declared.error.Error.TheVariants.{SqliteFailure}
use Rattle.sqlite.specs.declared.error.ErrorCode.TheVariants.{NotADatabase}
use Rattle.sqlite.specs.declared.file.Leftover.{Leftover}
use Rattle.sqlite.specs.declared.file.Leftover.TheVariants as leftover
use Rattle.sqlite.specs.Effect.{Database}
use Rattle.sqlite.specs.Files.{AreFoundIn, FailsToOpenFiles, HoldsDatabase, IsCleanLeft}
use Rattle.sqlite.specs.Files.{LeavesFiles, image_of}
use Rattle.sqlite.specs.Recovery.{Image}
use Rattle.sqlite.specs.Tree.{Trees}
use Rattle.sqlite_disk.specs.declared.Disk.{Ghosts}
use Rattle.sqlite_disk.specs.declared.Files.{Files}
use Rattle.store_schema.specs.FoundTables.{FindsNoSchema, FindsTables}
use Rattle.store_schema.specs.OpenFaults.{IsErrorFault}
use Rattle.store_schema.specs.declared.open_fault.OpenFault.{OpenFault}
use Rattle.store_schema.specs.declared.open_fault.OpenFault.TheVariants.{Store, NotOurs}
use Rattle.store_schema.specs.declared.open_fault.OpenFault.TheVariants.{OtherSchema, Damaged}
use Rattle.store_schema.specs.declared.open_fault.OpenFault.TheVariants.{NotEmpty, Memory}

-- ---- what the files held

module _ (image : Image) where
  -- files with these octets hold no database
  abbrev pub HoldsNoDatabase : Type 0
  HoldsNoDatabase = (trees : Trees) → ¬ HoldsDatabase image trees

  -- files with these octets hold tables of which the fact holds
  abbrev pub FileHas : (Database → Type 0) → Type 0
  FileHas = FindsTables (AreFoundIn image)

  -- files with these octets hold trees that list no schema
  abbrev pub FileHasNoSchema : Type 0
  FileHasNoSchema = FindsNoSchema (AreFoundIn image)

-- ---- what is left of the files

module _ {D : Type 0} {g : Ghosts D} where
  -- no store was opened over the files
  abbrev pub HasNoStore : Leftover D g → Type 0
  HasNoStore (leftover.Files files) = ⊤
  HasNoStore (leftover.Unopened files) = ⊤
  HasNoStore (leftover.Store store) = ⊥

  -- opening a connection over the files failed with the error, and this is left of them
  abbrev pub IsLeftOf : Files D → Error → Leftover D g → Type 0
  IsLeftOf files error left =
      IsCleanLeft left → FailsToOpenFiles files left error × LeavesFiles files left

-- ---- why the files are refused

module _ {D : Type 0} {g : Ghosts D} (image : Image) (left : Leftover D g) where
  -- The fault is right for files with these octets, of which this is left. The schema test is
  -- `Classifies`, and `IsWellFormed` is what the rows of the tables must be. No connection opens
  -- over rows that break the declarations of their tables, since the files then hold no database:
  -- that is `Damaged` too. An error of the database is possible in every case.
  abbrev pub IsRightFault :
      (Database → Result (Unit {0}) OpenFault → Type 0) → (Database → Type 0) → OpenFault → Type 0
  IsRightFault Classifies IsWellFormed Store = ⊤
  IsRightFault Classifies IsWellFormed NotOurs =
      (HasNoStore left × HoldsNoDatabase image)
      ⊎ (FileHasNoSchema image ⊎ FileHas image (λ db. Classifies db (Err NotOurs)))
  IsRightFault Classifies IsWellFormed (OtherSchema has) =
      FileHas image (λ db. Classifies db (Err (OtherSchema has)))
  IsRightFault Classifies IsWellFormed Damaged = FileHas image (λ db. Classifies db (Ok tt)
      × ¬ (IsWellFormed db × HoldsDatabase image db.trees))
  IsRightFault Classifies IsWellFormed NotEmpty = ⊥
  IsRightFault Classifies IsWellFormed Memory = ⊤

  -- the same, if the disk has returned what was written
  abbrev pub IsFileFault :
      (Database → Result (Unit {0}) OpenFault → Type 0) → (Database → Type 0) → OpenFault → Type 0
  IsFileFault Classifies IsWellFormed fault =
      IsCleanLeft left → IsRightFault Classifies IsWellFormed fault

module _ {D : Type 0} {g : Ghosts D} (image : Image) where
  -- The fault is that of the database if no files were opened. Otherwise it is right for files with
  -- these octets, of which this is left.
  abbrev pub IsFileRefusal :
      (Database → Result (Unit {0}) OpenFault → Type 0) → (Database → Type 0) → OpenFault
      → Option (Leftover D g) → Type 0
  IsFileRefusal Classifies IsWellFormed fault None = IsErrorFault fault
  IsFileRefusal Classifies IsWellFormed fault (Some left) =
      IsFileFault image left Classifies IsWellFormed fault

module _ {D : Type 0} {g : Ghosts D} where
  -- The fault is right for files over which no connection opens, since they hold no database. First
  -- `old` was left of them, and now `new`.
  abbrev pub IsFaultOfLeftover :
      (Database → Result (Unit {0}) OpenFault → Type 0) → Leftover D g → Leftover D g → OpenFault
      → Type 0
  IsFaultOfLeftover Classifies old new fault =
      (files : Files D) → IsLeftOf files (SqliteFailure NotADatabase) old
      → IsFileFault (image_of g files) new Classifies (λ db. ⊤) fault
