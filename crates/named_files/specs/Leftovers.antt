-- What a crash leaves of files after an opening that failed.
use Rattle.std.specs.Prelude.{◌⊎◌, IsTrue, ⊤}
use Rattle.sqlite.specs.Closing.{files_left}
use Rattle.sqlite.specs.Files.{IsCleanLeft, image_of}
use Rattle.sqlite.specs.Recovery.{Image}
use Rattle.sqlite.specs.Tree.{Trees}
use Rattle.sqlite.specs.WalFiles.{outcomes}
use Rattle.sqlite.specs.WalReads.{AreClean}
use Rattle.sqlite.specs.declared.file.Leftover.{Leftover}
use Rattle.sqlite.specs.declared.file.Leftover.TheVariants as leftover
use Rattle.sqlite_disk.specs.declared.Disk.{Ghosts}
use Rattle.sqlite_disk.specs.declared.Files.{Files}
use Rattle.sqlite_store.specs.FileStore.{view}
use Rattle.named_files.specs.Restarts.{HoldsSealed}

module _ {D : Type 0} {g : Ghosts D} where
  -- If a store is left, its tables have the places in the file that their numbers say. It is so of
  -- each store that a connection was over.
  abbrev pub IsNumberedLeft : Leftover D g → Type 0
  IsNumberedLeft (leftover.Files files) = ⊤
  IsNumberedLeft (leftover.Unopened files) = ⊤
  IsNumberedLeft (leftover.Store it) = IsTrue (view it).is_numbered

  -- Two facts of an opening that failed, which the kit's contract doesn't state: it forgot no fault
  -- of the disk, and a store that is left is numbered.
  pub record IsTold (files : Files D) (left : Leftover D g) : Type 0 where
    pub honest : IsCleanLeft left → AreClean g files.log files.db
    pub numbered : IsNumberedLeft left

  -- a crash of what is left may leave these bytes
  abbrev pub MayLeaveOf : Leftover D g → Image → Type 0
  MayLeaveOf left = outcomes g (files_left left).0 (files_left left).1

  -- An opening of files that hold a database failed, and this is left of them. A crash of it leaves
  -- what a crash of the files left, or bytes that hold the same database.
  abbrev pub LeavesTheSame : Files D → Leftover D g → Type 0
  LeavesTheSame files left = IsCleanLeft left → IsNumberedLeft left →
      (db : Trees) → HoldsSealed (image_of g files) db →
      (image : Image) → MayLeaveOf left image →
      outcomes g files.log files.db image ⊎ ∥ HoldsSealed image db ∥₁
