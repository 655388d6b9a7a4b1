-- What a search of a connection for a faulty row found, by what the files held over which it was
-- opened.
use Rattle.std.proofs.Common.{arith, refl, Option, Some, None, Result, Ok, Err}
use Rattle.named_files.specs.FileOpenings.{ComesOf}
use Rattle.sqlite.specs.declared.file.Leftover.TheVariants as leftover
use Rattle.sqlite.specs.Effect.{Database}
use Rattle.sqlite.specs.Files.{file_state}
use Rattle.sqlite.specs.Held.{Held}
use Rattle.sqlite.specs.Recovery.{Image}
use Rattle.sqlite.specs.Start.{FindsIn}
use Rattle.sqlite.specs.State.{HasCleanDisk, IsLive, Opens}
use Rattle.sqlite_disk.specs.declared.Disk.{Ghosts}
use Rattle.sqlite_store.specs.FileStore.{faults, is_shielded, recovers, view}
use Rattle.sqlite_store.specs.declared.store.FileStore.{FileStore}
use Rattle.sqlite_trees.specs.View.{IsQuiet}
use Rattle.store_check.specs.FaultSearches.{AreFaulty, IsFaultSearch, IsSearchFault}
use Rattle.store_check.specs.OpenResults.{IsOpenResult, OpensWellFormed, max_limits}
use Rattle.store_check.specs.declared.faults.FaultyRow.{FaultyRow}
use Rattle.store_rows.specs.SoundTables.{HoldsWellFormed}
use Rattle.store_schema.specs.StoredSchema.{ChangesNothing}
use Rattle.store_schema.specs.declared.open_fault.OpenFault.{OpenFault}
use Rattle.store_schema.specs.declared.open_fault.OpenFault.TheVariants.{Store, NotOurs}
use Rattle.store_schema.specs.declared.open_fault.OpenFault.TheVariants.{OtherSchema, Damaged}
use Rattle.store_schema.specs.declared.open_fault.OpenFault.TheVariants.{NotEmpty, Memory}
use Rattle.store_schema.proofs.LeftoverLemmas.{still_clean}
use Rattle.book_store.specs.FileSearches.{IsFileSearch, with_fault}
use Rattle.book_store.proofs.RefusalLemmas.{opened_fault, shown}

-- a fault of the search is one of opening the tables
opening_fault : (db : Database) (fault : OpenFault) → IsSearchFault db fault
    → IsOpenResult max_limits db (Err fault)
opening_fault db Store is = tt
opening_fault db NotOurs is = is
opening_fault db (OtherSchema has) is = is
opening_fault db Damaged is = absurd is
opening_fault db NotEmpty is = absurd is
opening_fault db Memory is = tt

module _ {D : Type 0} {g : Ghosts D} (image : Image) (conn searched : Held (FileStore D g)) (last :
    FileStore D g) (opened : HasCleanDisk (file_state conn) → Opens (file_state conn)
    × IsLive (file_state conn)) (found : HasCleanDisk (file_state conn)
    → FindsIn image (file_state conn))
    (quiet : IsQuiet view faults recovers is_shielded searched.store last) where
  pub searched_files : (result : Result (Option FaultyRow) OpenFault)
      → (HasCleanDisk (file_state searched) → IsFaultSearch max_limits (file_state conn).now result)
      → OpensWellFormed max_limits (file_state conn) (file_state searched) result
      → ChangesNothing (file_state conn) (file_state searched)
      → IsFileSearch image result (Some (leftover.Store last))
  searched_files (Ok None) searched_is opens unchanged = λ is_clean.
      let clean = still_clean searched last quiet is_clean in
      shown image conn searched last opened found quiet (HoldsWellFormed max_limits)
      (omega (arith, clean, unchanged.survives.clean)) (searched_is clean)
  searched_files (Ok (Some f)) searched_is opens unchanged = λ is_clean.
      let clean = still_clean searched last quiet is_clean in
      shown image conn searched last opened found quiet (λ db. AreFaulty max_limits db f)
      (omega (arith, clean, unchanged.survives.clean)) (searched_is clean)
  searched_files (Err fault) searched_is opens unchanged =
      opened_fault image conn searched last opened found quiet fault (record {
        left_unchanged = unchanged;
        right_fault = λ clean. opening_fault (file_state conn).now fault (searched_is clean);
        from_outside = opens;
      })

-- a search of files that were opened returns them with a fault
pub opened_search : {A L : Type 0} (found : Result A OpenFault) (left : L)
    → ComesOf None (with_fault found (Some left))
opened_search (Ok found) left = refl
opened_search (Err fault) left = λ is. let it = is in cc
