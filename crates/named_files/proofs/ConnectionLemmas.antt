-- Why no connection opens to a file.
use Rattle.std.proofs.Common.{◌≡◌, Err, IfErr, IfSome, None, Ok, Option, Result, Some}
use Rattle.sqlite.specs.declared.error.Error.{Error}
use Rattle.sqlite.specs.declared.file.Leftover.{Leftover}
use Rattle.sqlite.specs.Files.{FailsToOpenFiles, IsCleanLeft, LeavesFiles, image_of}
use Rattle.sqlite.specs.Recovery.{Image}
use Rattle.sqlite_disk.specs.declared.Disk.{Ghosts}
use Rattle.sqlite_disk.specs.declared.Files.{Files}
use Rattle.named_files.specs.Connections.{FailsToConnect}

module _ {C D : Type 0} {g : Ghosts D} (A B : Files D → Type 0) where
  -- the files that were opened, of which these facts tell what they held
  pub failed_connection : (image : Image) (result : Result C (Error × Option (Leftover D g)))
      → IfErr result (λ e. IfSome e.1 (λ left. (files : Files D) × A files × B files
      × (IsCleanLeft left → FailsToOpenFiles files left e.0 × LeavesFiles files left)))
      → ((files : Files D) → A files → B files → image_of g files ≡ image)
      → IfErr result (λ e. IfSome e.1 (FailsToConnect image e.0))
  failed_connection image (Ok connection) h same = tt
  failed_connection image (Err (error, None)) h same = tt
  failed_connection image (Err (error, Some left)) h same = (h.0, same h.0 h.1 h.2, h.3)
