-- Why no connection opens to a file.
use Rattle.std.specs.Prelude.{◌≡◌, ◌⊎◌}
use Rattle.sqlite.specs.declared.error.Error.{Error}
use Rattle.sqlite.specs.declared.error.Error.TheVariants.{SqliteFailure}
use Rattle.sqlite.specs.declared.error.ErrorCode.TheVariants.{CannotOpen, DatabaseBusy}
use Rattle.sqlite.specs.declared.error.ErrorCode.TheVariants.{OutOfMemory}
use Rattle.sqlite.specs.declared.file.Leftover.{Leftover}
use Rattle.sqlite.specs.Files.{FailsToOpenFiles, IsCleanLeft, LeavesFiles, image_of}
use Rattle.sqlite.specs.Recovery.{Image}
use Rattle.sqlite_disk.specs.declared.Disk.{Ghosts}
use Rattle.sqlite_disk.specs.declared.Files.{Files}

module _ {D : Type 0} {g : Ghosts D} where
  -- no connection opened to files with these octets, for this error, and this is left of them
  abbrev pub FailsToConnect : Image → Error → Leftover D g → Type 0
  FailsToConnect image error left = (files : Files D) × (image_of g files ≡ image)
      × (IsCleanLeft left → FailsToOpenFiles files left error × LeavesFiles files left)

-- the errors by which no file is opened
abbrev pub IsUnopenedError : Error → Type 0
IsUnopenedError error = (error ≡ SqliteFailure CannotOpen)
    ⊎ ((error ≡ SqliteFailure OutOfMemory) ⊎ (error ≡ SqliteFailure DatabaseBusy))
