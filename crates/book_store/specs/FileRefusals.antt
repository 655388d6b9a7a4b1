-- Why no store is opened or created in files, by what they held.
use Rattle.std.specs.Prelude.{◌≡◌, ◌⊎◌, ⊤, IfSome, Option, Some, None}
use Rattle.sqlite.specs.declared.error.Error.{Error}
use Rattle.sqlite.specs.declared.error.Error.TheVariants.{SqliteFailure}
use Rattle.sqlite.specs.declared.error.ErrorCode.TheVariants.{NotADatabase}
use Rattle.sqlite.specs.declared.file.Leftover.{Leftover}
use Rattle.sqlite.specs.Files.{HoldsDatabase, IsCleanLeft, IsEmpty, IsNothing, image_of}
use Rattle.sqlite.specs.Recovery.{Image}
use Rattle.sqlite.specs.Tree.{Trees}
use Rattle.sqlite_disk.specs.declared.Disk.{Ghosts}
use Rattle.sqlite_disk.specs.declared.Files.{Files}
use Rattle.store_tables.specs.SchemaCreation.{empty_schema}
use Rattle.store_rows.specs.SoundTables.{HoldsWellFormed}
use Rattle.store_schema.specs.FileFaults.{FileHas, FileHasNoSchema, HasNoStore, HoldsNoDatabase}
use Rattle.store_schema.specs.FileFaults.{IsFileFault, IsFileRefusal, IsLeftOf}
use Rattle.store_schema.specs.OpenFaults.{IsErrorFault}
use Rattle.store_schema.specs.StoredSchema.{ClassifiesSchema}
use Rattle.store_schema.specs.declared.open_fault.OpenFault.{OpenFault}
use Rattle.store_schema.specs.declared.open_fault.OpenFault.TheVariants.{Store, NotOurs}
use Rattle.store_schema.specs.declared.open_fault.OpenFault.TheVariants.{OtherSchema, Damaged}
use Rattle.store_schema.specs.declared.open_fault.OpenFault.TheVariants.{NotEmpty, Memory}
use Rattle.store_check.specs.OpenResults.{max_limits}

-- unless the files hold no database, this holds
abbrev pub IsUnlessNoDatabase : Error → Type 0 → Type 0
IsUnlessNoDatabase error Then = ¬ (error ≡ SqliteFailure NotADatabase) → Then

-- ---- new stores

-- The files are empty or half made, or they hold a database without tables: so a creation leaves
-- them that was stopped before its tables were committed.
abbrev pub IsUnbegun : Image → Type 0
IsUnbegun image = IsNothing image ⊎ ((db : Trees) × HoldsDatabase image db × IsEmpty db)

module _ {D : Type 0} {g : Ghosts D} (image : Image) (left : Leftover D g) where
  -- The fault of creating a store is right for files with these bytes, of which this is left: they
  -- hold tables, or they hold no database and something else. Files whose rows break the
  -- declarations of their tables hold no database either, but they hold tables. An error of the
  -- database is possible in every case.
  abbrev pub IsRightCreationFault : OpenFault → Type 0
  IsRightCreationFault Store = ⊤
  IsRightCreationFault NotOurs = (¬ IsUnbegun image)
      × ((HasNoStore left × HoldsNoDatabase image)
      ⊎ (FileHasNoSchema image
      ⊎ FileHas image (λ db. (db.schema ≡ empty_schema) × ¬ HoldsDatabase image db.trees)))
  IsRightCreationFault (OtherSchema has) = ⊥
  IsRightCreationFault Damaged = ⊥
  IsRightCreationFault NotEmpty = (¬ IsUnbegun image)
      × FileHas image (λ db. ¬ (db.schema ≡ empty_schema))
  IsRightCreationFault Memory = ⊤

  -- the same, if the disk has returned what was written
  abbrev pub IsFileCreationFault : OpenFault → Type 0
  IsFileCreationFault fault = IsCleanLeft left → IsRightCreationFault fault

module _ {D : Type 0} {g : Ghosts D} where
  -- No connection opens over the files, since they hold no database, and the fault of creating a
  -- store is right for them. First `old` was left of them, and now `new`.
  abbrev pub IsCreationFaultOfLeftover : Leftover D g → Leftover D g → OpenFault → Type 0
  IsCreationFaultOfLeftover old new fault =
      (files : Files D) → IsLeftOf files (SqliteFailure NotADatabase) old
      → IsFileCreationFault (image_of g files) new fault

  -- Opening a connection over files failed with the error, and the fault of creating a store is
  -- right for them. First `old` was left of them, and now `new`.
  abbrev pub IsCreationFaultAfter : Error → Leftover D g → Leftover D g → OpenFault → Type 0
  IsCreationFaultAfter error old new fault =
      (files : Files D) → IsLeftOf files error old
      → IsFileCreationFault (image_of g files) new fault

  -- The fault of creating a store is that of the database if no files were opened. Otherwise it is
  -- right for files with these bytes, of which this is left.
  abbrev pub IsFileCreationRefusal : Image → OpenFault → Option (Leftover D g) → Type 0
  IsFileCreationRefusal image fault None = IsErrorFault fault
  IsFileCreationRefusal image fault (Some left) = IsFileCreationFault image left fault

  -- Opening a connection over files failed with the error, and `old` was left of them, if they were
  -- opened.
  abbrev pub FailsOver : Image → Error → Option (Leftover D g) → Type 0
  FailsOver image error old = IfSome old (λ left. (files : Files D)
      × (image_of g files ≡ image) × IsLeftOf files error left)

  -- The fault of creating a store is right after opening a connection failed with the error. First
  -- `old` was left of the files, and now `new`.
  abbrev pub IsCreationRefusalAfter :
      Error → Option (Leftover D g) → OpenFault → Option (Leftover D g) → Type 0
  IsCreationRefusalAfter error old fault new =
      (image : Image) → FailsOver image error old → IsFileCreationRefusal image fault new

  -- ---- existing stores

  -- the same of opening the store in files
  abbrev pub IsOpenFaultAfter : Error → Leftover D g → Leftover D g → OpenFault → Type 0
  IsOpenFaultAfter error old new fault =
      (files : Files D) → IsLeftOf files error old → IsFileFault (image_of g files) new
      ClassifiesSchema (HoldsWellFormed max_limits) fault

  -- The fault of opening a store is that of the database if no files were opened. Otherwise it is
  -- right for files with these bytes, of which this is left.
  abbrev pub IsFileOpenRefusal : Image → OpenFault → Option (Leftover D g) → Type 0
  IsFileOpenRefusal image = IsFileRefusal image ClassifiesSchema (HoldsWellFormed max_limits)

  -- No fault of the disk is forgotten. First `old` was left of the files, and now `new`.
  abbrev pub ForgetsNoFault : Option (Leftover D g) → Option (Leftover D g) → Type 0
  ForgetsNoFault old new = IfSome new (λ left. IsCleanLeft left → IfSome old IsCleanLeft)

  -- the fault of opening a store is right after opening a connection failed with the error
  abbrev pub IsOpenRefusalAfter :
      Error → Option (Leftover D g) → OpenFault → Option (Leftover D g) → Type 0
  IsOpenRefusalAfter error old fault new =
      (image : Image) → FailsOver image error old → IsFileOpenRefusal image fault new

-- The file was refused since it is empty and has no log, which a call of the system told; or this
-- holds.
abbrev pub IsUnlessEmpty : {L : Type 0} → OpenFault × Option L → Type 0 → Type 0
IsUnlessEmpty refused Otherwise = (refused ≡ (NotOurs, None)) ⊎ Otherwise
