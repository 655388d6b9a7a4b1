-- What a run of a program leaves in the files of a store, and what the next run opens.
use Rattle.std.specs.Prelude.{◌≡◌, ◌⊎◌, Option, Some, None}
use Rattle.sqlite.specs.Disk.{MoreFaults}
use Rattle.sqlite.specs.Effect.{Database}
use Rattle.sqlite.specs.Files.{IsCleanLeft, IsFullLeft, LeavesFiles, faults_left, faults_of}
use Rattle.sqlite.specs.Files.{file_state, image_of, over_files}
use Rattle.sqlite.specs.Held.{Held}
use Rattle.sqlite.specs.Recovery.{Image}
use Rattle.sqlite.specs.State.{State}
use Rattle.sqlite.specs.Tree.{Trees}
use Rattle.sqlite.specs.WalFiles.{outcomes}
use Rattle.sqlite.specs.WalReads.{AreClean}
use Rattle.sqlite.specs.declared.file.Leftover.{Leftover}
use Rattle.sqlite_disk.specs.declared.Disk.{Ghosts}
use Rattle.sqlite_disk.specs.declared.Files.{Files}
use Rattle.sqlite_store.specs.declared.store.FileStore.{FileStore}
use Rattle.book_model.specs.Books.{Books}
use Rattle.book_model.specs.Bounds.{Bounds}
use Rattle.book_store.specs.StoreViews.{MayLeaveBooks, StoreView, table_model}
use Rattle.named_files.specs.Leftovers.{IsTold, MayLeaveOf}
use Rattle.named_files.specs.Restarts.{HoldsListed, HoldsSealed, ShowsOpened}
use Rattle.store_check.specs.OpenResults.{max_limits}
use Rattle.store_schema.specs.OpenFaults.{IsErrorFault}
use Rattle.store_schema.specs.declared.open_fault.OpenFault.{OpenFault}
use Rattle.store_schema.specs.declared.open_fault.OpenFault.TheVariants.{Memory, Store}
use Rattle.store_rows.specs.SoundTables.{HoldsWellFormed}
use Rattle.store_rows.specs.TableBooks.{books_in}
use Rattle.store_tables.specs.Tables.{book_schema}
use Rattle.sync_core.specs.StoreCrashes.{RestartsFrom}

-- the declared tables, with these trees
abbrev pub declared_over : Trees → Database
declared_over trees = record { schema = book_schema; trees = trees }

-- The bytes hold a store with these books: they list the declared tables, whose rows are those of
-- well-formed books. This is all that an opening tests.
pub record HoldsStore (image : Image) (books : Books) : Type 0 where
  pub trees : Trees
  pub listed : HoldsListed image (declared_over trees)
  pub well_formed : HoldsWellFormed max_limits (declared_over trees)
  pub books_are : books_in trees ≡ books

-- The bytes hold a store, with books that a crash of the connection may leave. Each page that is to
-- have a sum has the right one.
pub record LeftStore (s : State) (image : Image) : Type 0 where
  pub books : Books
  pub may_be_left : MayLeaveBooks s books
  pub holds : HoldsStore image books
  pub whole : HoldsSealed image holds.trees

-- ---- what is left after a crash

module _ {D : Type 0} (g : Ghosts D) (s : State) where
  -- whatever a crash leaves of the files holds a store, with books that a crash of the connection may
  -- leave
  abbrev pub LeaveStores : Files D → Type 0
  LeaveStores files = AreClean g files.log files.db → (image : Image) →
      outcomes g files.log files.db image → ∥ LeftStore s image ∥₁

module _ {D : Type 0} {g : Ghosts D} (s : State) where
  -- the same of what is left of them after an opening that failed
  abbrev pub StillLeaves : Leftover D g → Type 0
  StillLeaves left = IsCleanLeft left → (image : Image) → MayLeaveOf left image →
      ∥ LeftStore s image ∥₁

-- ---- an opening that fails

module _ {D : Type 0} {g : Ghosts D} where
  -- a connection showed this database, and later the disk failed
  pub record FailsOnceOpened (db : Database) (left : Leftover D g) : Type 0 where
    pub opened : Held (FileStore D g)
    pub shows : ShowsOpened (file_state opened) db
    pub failed : MoreFaults (file_state opened).faults (faults_left left)

  -- Why files that hold a store don't open: memory ran out; or the fault is `Store`, and the disk
  -- failed as the files were opened or as their rows were read, or the files are as long as their
  -- format can number.
  abbrev pub HasRestartCause : Database → Files D → Leftover D g → OpenFault → Type 0
  HasRestartCause db files left fault = (fault ≡ Memory) ⊎ ((fault ≡ Store)
      × (MoreFaults (faults_of g files) (faults_left left)
      ⊎ (FailsOnceOpened db left ⊎ IsFullLeft left)))

  -- Why a restart failed: the crash left these files, which hold a store, and they don't open for
  -- this cause. What is left of them stands for what they stood for.
  pub record HasCrashCause (s : State) (left : Leftover D g) (fault : OpenFault) : Type 0 where
    pub files : Files D
    pub holds : AreClean g files.log files.db → ∥ LeftStore s (image_of g files) ∥₁
    pub cause : (books : Books) → (stored : HoldsStore (image_of g files) books)
        → IsCleanLeft left → HasRestartCause (declared_over stored.trees) files left fault
    pub unharmed : IsCleanLeft left → LeavesFiles files left
    pub still : IsTold files left → StillLeaves s left

  -- ---- the next opening

  -- A store that was opened after a crash of what an opening that failed left: it is an opening
  -- after a crash of each store of which that still leaves books.
  abbrev pub OpensLeft : Leftover D g → Bounds → StoreView (FileStore D g) → Type 0
  OpensLeft left limits new = (old : StoreView (FileStore D g)) → old.limits ≡ limits →
      StillLeaves (file_state old.conn) left → RestartsFrom (table_model over_files) old new

  -- This opening failed too: the crash left these files, and they don't open for this cause. What is
  -- left of them still leaves the books of each such store.
  pub record FailsAgain (before after : Leftover D g) (fault : OpenFault) : Type 0 where
    pub files : Files D
    pub crash : MayLeaveOf before (image_of g files)
    pub cause : (books : Books) → (stored : HoldsStore (image_of g files) books)
        → IsCleanLeft after → HasRestartCause (declared_over stored.trees) files after fault
    pub still : IsTold files after → (old : StoreView (FileStore D g)) →
        StillLeaves (file_state old.conn) before → StillLeaves (file_state old.conn) after

  -- ---- an opening at a path

  -- the disk failed as files with these bytes were opened
  pub record FailsAtOpening (image : Image) (left : Leftover D g) : Type 0 where
    pub files : Files D
    pub image_is : image_of g files ≡ image
    pub failed : MoreFaults (faults_of g files) (faults_left left)

  -- Why a file whose bytes hold a store doesn't open. If it wasn't opened, memory ran out, or it
  -- can't be used, as if it isn't there or another process has it open. Otherwise memory ran out;
  -- or the disk failed as the file was opened or its rows were read; or it is as long as its format
  -- can number.
  abbrev pub HasPathCause : Image → Database → OpenFault → Option (Leftover D g) → Type 0
  HasPathCause image db fault None = IsErrorFault fault
  HasPathCause image db fault (Some left) = IsCleanLeft left → (fault ≡ Memory)
      ⊎ ((fault ≡ Store) × (FailsAtOpening image left
      ⊎ (FailsOnceOpened db left ⊎ IsFullLeft left)))
