-- What the files of a database hold between two runs of a program, and what the next run opens.
use Rattle.std.specs.Prelude.{◌≡◌, ◌⊎◌, ℕ}
use Rattle.sqlite.specs.Effect.{Database}
use Rattle.sqlite.specs.Files.{HoldsDatabase, IsFullLeft, faults_left, faults_of}
use Rattle.sqlite.specs.Recovery.{Image}
use Rattle.sqlite.specs.State.{State, Opens}
use Rattle.sqlite.specs.Tree.{Trees}
use Rattle.sqlite.specs.WalFiles.{outcomes}
use Rattle.sqlite.specs.WalReads.{AreClean}
use Rattle.sqlite.specs.declared.error.Error.{Error}
use Rattle.sqlite.specs.declared.error.Error.TheVariants.{SqliteFailure}
use Rattle.sqlite.specs.declared.error.ErrorCode.TheVariants.{DiskFull, OutOfMemory}
use Rattle.sqlite.specs.declared.file.Leftover.{Leftover}
use Rattle.sqlite.specs.Opening.{HoldsAt}
use Rattle.sqlite_catalog.specs.Listing.{Lists}
use Rattle.sqlite_disk.specs.Disk.{MoreFaults}
use Rattle.sqlite_disk.specs.declared.Disk.{Ghosts}
use Rattle.sqlite_disk.specs.declared.Files.{Files}
use Rattle.sqlite_pool.specs.Stored.{stored_size}
use Rattle.sqlite_trees.specs.Objects.{catalog_tree}
use Rattle.sqlite_wal.specs.PageSize.{IsPageSize}

-- ---- what is left

-- the bytes hold a database that is one of these
abbrev pub HoldsOneOf : Image → (Trees → Type 0) → Type 0
HoldsOneOf image Allowed = ∥ ((db : Trees) × Allowed db × HoldsDatabase image db) ∥₁

-- The bytes hold a database, as a store leaves it: if pages end in sums, each page has the right
-- one. Of a database that sqlite3 left, the pages in the log may lack theirs.
abbrev pub HoldsSealed : Image → Trees → Type 0
HoldsSealed image db = (size : ℕ) × IsPageSize (stored_size size) × HoldsAt size image db

-- they hold one of these, as a store leaves it
abbrev pub HoldsSealedOneOf : Image → (Trees → Type 0) → Type 0
HoldsSealedOneOf image Allowed = ∥ ((db : Trees) × Allowed db × HoldsSealed image db) ∥₁

module _ {D : Type 0} (g : Ghosts D) (files : Files D) where
  -- Whatever a crash leaves of the files holds a database that is one of these, as long as the disk
  -- has returned what was written.
  abbrev pub LeaveOneOf : (Trees → Type 0) → Type 0
  LeaveOneOf Allowed = AreClean g files.log files.db → (image : Image) →
      outcomes g files.log files.db image → HoldsOneOf image Allowed

  -- the same, as a store leaves it
  abbrev pub LeaveSealedOneOf : (Trees → Type 0) → Type 0
  LeaveSealedOneOf Allowed = AreClean g files.log files.db → (image : Image) →
      outcomes g files.log files.db image → HoldsSealedOneOf image Allowed

-- ---- what is opened

-- the bytes hold the rows of this database, and the schema that they list is its schema
pub record HoldsListed (image : Image) (db : Database) : Type 0 where
  pub holds : HoldsDatabase image db.trees
  pub lists : Lists (db.trees catalog_tree) db.schema

-- the connection shows this database, no transaction is open, and nothing is pending
pub record ShowsOpened (s : State) (db : Database) : Type 0 where
  pub shows : s.now ≡ db
  pub opened : Opens s

-- Why files that hold a database don't open: memory ran out, the disk failed during the opening, or
-- the files are as long as their format can number.
abbrev pub HasOpenCause : {D : Type 0} {g : Ghosts D} → Files D → Leftover D g → Error → Type 0
HasOpenCause {g = g} files left e = (e ≡ SqliteFailure OutOfMemory)
    ⊎ (MoreFaults (faults_of g files) (faults_left left)
    ⊎ ((e ≡ SqliteFailure DiskFull) × IsFullLeft left))
