-- What a search of files for a faulty row found, by what the files held.
use Rattle.std.specs.Prelude.{Option, Some, None, Result, Ok, Err}
use Rattle.sqlite.specs.declared.file.Leftover.{Leftover}
use Rattle.sqlite.specs.Files.{IsCleanLeft}
use Rattle.sqlite.specs.Recovery.{Image}
use Rattle.sqlite_disk.specs.declared.Disk.{Ghosts}
use Rattle.store_check.specs.FaultSearches.{AreFaulty}
use Rattle.store_check.specs.OpenResults.{max_limits}
use Rattle.store_check.specs.declared.faults.FaultyRow.{FaultyRow}
use Rattle.store_rows.specs.SoundTables.{HoldsWellFormed}
use Rattle.store_schema.specs.FileFaults.{FileHas}
use Rattle.store_schema.specs.declared.open_fault.OpenFault.{OpenFault}
use Rattle.book_store.specs.FileRefusals.{IsFileOpenRefusal}

-- files with these bytes hold well-formed books, or a row with this fault
abbrev pub IsFoundInFiles : Image → Option FaultyRow → Type 0
IsFoundInFiles image None = FileHas image (HoldsWellFormed max_limits)
IsFoundInFiles image (Some f) = FileHas image (λ db. AreFaulty max_limits db f)

module _ {D : Type 0} {g : Ghosts D} (image : Image) where
  -- What was found is right for files with these bytes, of which this is left, if the disk has
  -- returned what was written. A fault of the search is that of opening a store in them.
  abbrev pub IsFileSearch : Result (Option FaultyRow) OpenFault → Option (Leftover D g) → Type 0
  IsFileSearch (Ok found) None = ⊥
  IsFileSearch (Ok found) (Some left) = IsCleanLeft left → IsFoundInFiles image found
  IsFileSearch (Err fault) left = IsFileOpenRefusal image fault left

-- the result of a search, with what is left of the files beside its fault alone
abbrev pub with_fault : {A L : Type 0} → Result A OpenFault → Option L
    → Result A (OpenFault × Option L)
with_fault (Ok found) left = Ok found
with_fault (Err fault) left = Err (fault, left)
