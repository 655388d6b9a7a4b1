-- Why no store was opened or created in files, by what they held.
use Rattle.std.proofs.Common.{◌≡◌, ◌∙◌, ap, inl, inr, arith, Some, Ok, Err}
use Rattle.std.proofs.Common.{subst, sym}
use Rattle.sqlite.specs.declared.error.Error.{Error}
use Rattle.sqlite.specs.declared.error.Error.TheVariants.{SqliteFailure}
use Rattle.sqlite.specs.declared.error.ErrorCode.{ErrorCode}
use Rattle.sqlite.specs.declared.error.ErrorCode.TheVariants.{NotADatabase}
use Rattle.sqlite.specs.declared.file.Leftover.{Leftover}
use Rattle.sqlite.specs.declared.file.Leftover.TheVariants as leftover
use Rattle.sqlite.specs.Effect.{Database}
use Rattle.sqlite.specs.Files.{AreFoundIn, HoldsDatabase, file_state, image_of, over_files}
use Rattle.sqlite.specs.Held.{Held}
use Rattle.sqlite.specs.Recovery.{Image}
use Rattle.sqlite.specs.Schema.{Schema}
use Rattle.sqlite.specs.Start.{FindsIn}
use Rattle.sqlite.specs.State.{HasCleanDisk, IsLive, Opens}
use Rattle.sqlite_disk.specs.declared.Disk.{Ghosts}
use Rattle.sqlite_disk.specs.declared.Files.{Files}
use Rattle.sqlite_store.specs.FileStore.{faults, is_shielded, recovers, view}
use Rattle.sqlite_store.specs.declared.store.FileStore.{FileStore}
use Rattle.sqlite_trees.proofs.Doubt.{no_doubt}
use Rattle.sqlite_trees.specs.View.{IsClean, IsQuiet}
use Rattle.store_rows.specs.SoundTables.{HoldsWellFormed}
use Rattle.store_tables.specs.SchemaCreation.{empty_schema}
use Rattle.store_schema.specs.FileFaults.{FileHas, HasNoStore, IsFileFault, IsLeftOf}
use Rattle.store_schema.specs.FoundTables.{LoadsSchema}
use Rattle.store_schema.specs.OpenFaults.{IsCreationFault}
use Rattle.store_schema.specs.StoredSchema.{ClassifiesSchema, IsCurrentSchema}
use Rattle.store_schema.proofs.LeftoverLemmas.{holds_none, listed_as, listed_none, still_clean}
use Rattle.store_schema.proofs.LeftoverLemmas.{unopened_files}
use Rattle.store_schema.specs.declared.open_fault.OpenFault.{OpenFault}
use Rattle.store_schema.specs.declared.open_fault.OpenFault.TheVariants.{Store, NotOurs}
use Rattle.store_schema.specs.declared.open_fault.OpenFault.TheVariants.{OtherSchema, Damaged}
use Rattle.store_schema.specs.declared.open_fault.OpenFault.TheVariants.{NotEmpty, Memory}
use Rattle.store_check.specs.OpenResults.{max_limits}
use Rattle.book_store.specs.FileRefusals.{IsCreationFaultAfter, IsCreationRefusalAfter}
use Rattle.book_store.specs.FileRefusals.{IsFileCreationFault, IsOpenFaultAfter, IsOpenRefusalAfter}
use Rattle.book_store.specs.OpenOutcomes.{IsCreationRefusal, IsOpenRefusal}
use Rattle.book_store.proofs.UnbegunLemmas.{begun_files, begun_store, unbegun_schema}

-- ---- a connection was opened over the files

module _ {D : Type 0} {g : Ghosts D} (image : Image) (conn refused : Held (FileStore D g)) (last :
    FileStore D g) (opened : HasCleanDisk (file_state conn) → Opens (file_state conn)
    × IsLive (file_state conn)) (found : HasCleanDisk (file_state conn)
    → FindsIn image (file_state conn))
    (quiet : IsQuiet view faults recovers is_shielded refused.store last) where
  -- it shows the tables in the files
  pub shown : (Fact : Database → Type 0) → HasCleanDisk (file_state conn)
      → Fact (file_state conn).now → FileHas image Fact
  shown Fact clean fact =
      let (opens, live) = opened clean in record {
        db = (file_state conn).now;
        found = subst (λ (d : Database). AreFoundIn image d.trees) (sym opens.clean)
            (found clean).reads;
        listed = (live opens.is_open).0.lists;
        fact = fact;
      }

  -- its tables were refused, and it was closed
  shown_at_last : (Fact : Database → Type 0) (fault : OpenFault)
      → IsOpenRefusal over_files conn refused fault → HasCleanDisk (file_state refused)
      → Fact (file_state conn).now → FileHas image Fact
  shown_at_last Fact fault h clean fact =
      shown Fact (omega (arith, clean, h.left_unchanged.survives.clean)) fact

  pub opened_fault : (fault : OpenFault) → IsOpenRefusal over_files conn refused fault
      → IsFileFault image (leftover.Store last) ClassifiesSchema (HoldsWellFormed max_limits) fault
  opened_fault Store h is_clean = tt
  opened_fault NotOurs h is_clean =
      let clean = still_clean refused last quiet is_clean in
      inr (inr (shown_at_last (λ db. ClassifiesSchema db (Err NotOurs)) NotOurs h clean
      (h.right_fault clean)))
  opened_fault (OtherSchema has) h is_clean =
      let clean = still_clean refused last quiet is_clean in
      shown_at_last (λ db. ClassifiesSchema db (Err (OtherSchema has))) (OtherSchema has) h clean
      (h.right_fault clean)
  opened_fault Damaged h is_clean =
      let clean = still_clean refused last quiet is_clean in
      let wrong = h.right_fault clean in
      shown_at_last (λ db. IsCurrentSchema db × ¬ (HoldsWellFormed max_limits db
      × HoldsDatabase image db.trees)) Damaged h clean (wrong.0, λ both. wrong.1 both.0)
  opened_fault NotEmpty h is_clean =
      absurd (h.right_fault (still_clean refused last quiet is_clean))
  opened_fault Memory h is_clean = tt

  -- it had tables, or the database failed, and it was closed
  pub created_fault : (fault : OpenFault) → IsCreationRefusal over_files conn refused fault
      → IsFileCreationFault image (leftover.Store last) fault
  created_fault Store h is_clean = tt
  created_fault NotOurs h is_clean = absurd h
  created_fault (OtherSchema has) h is_clean = absurd h
  created_fault Damaged h is_clean = absurd h
  created_fault NotEmpty h is_clean =
      let clean = subst (λ c. HasCleanDisk (file_state c)) h.1
      (still_clean refused last quiet is_clean) in (
        λ unbegun. h.0 (unbegun_schema image (file_state conn) (found clean) (opened clean) unbegun),
        shown (λ db. ¬ (db.schema ≡ empty_schema)) clean h.0,
      )
  created_fault Memory h is_clean = tt

-- ---- the kinds of faults

pub refused_kind : {D : Type 0} {g : Ghosts D} (conn refused : Held (FileStore D g)) (fault :
    OpenFault) → IsCreationRefusal over_files conn refused fault → IsCreationFault fault
refused_kind conn refused Store h = tt
refused_kind conn refused NotOurs h = absurd h
refused_kind conn refused (OtherSchema has) h = absurd h
refused_kind conn refused Damaged h = absurd h
refused_kind conn refused NotEmpty h = tt
refused_kind conn refused Memory h = tt

-- ---- no connection was opened over the files

pub open_fault_of_files : {D : Type 0} {g : Ghosts D} (error : Error) (left new : Leftover D g)
    (fault : OpenFault) → IsOpenFaultAfter error left new fault
    → IsOpenRefusalAfter error (Some left) fault (Some new)
open_fault_of_files error left new fault after image failed =
    subst (λ i. IsFileFault i new ClassifiesSchema (HoldsWellFormed max_limits) fault) failed.1
    (after failed.0 failed.2)

pub creation_fault_of_files : {D : Type 0} {g : Ghosts D} (error : Error) (left new : Leftover D g)
    (fault : OpenFault) → IsCreationFaultAfter error left new fault
    → IsCreationRefusalAfter error (Some left) fault (Some new)
creation_fault_of_files error left new fault after image failed =
    subst (λ i. IsFileCreationFault i new fault) failed.1 (after failed.0 failed.2)

-- since they hold no database
pub no_database_left : {D : Type 0} {g : Ghosts D} (files : Files D) (error : Error) (code :
    ErrorCode) (rest : Leftover D g) → error ≡ SqliteFailure code → code ≡ NotADatabase
    → IsLeftOf files error rest → IsLeftOf files (SqliteFailure NotADatabase) rest
no_database_left files error code rest is code_is h =
    subst (λ e. IsLeftOf files e rest) (is ∙ ap (λ c. SqliteFailure c) code_is) h

pub unopened_creation : {D : Type 0} {g : Ghosts D} (files : Files D) (rest : Leftover D g)
    → HasNoStore rest → IsLeftOf files (SqliteFailure NotADatabase) rest
    → IsFileCreationFault (image_of g files) rest NotOurs
unopened_creation files rest none is clean =
    (begun_files files rest is clean, inl (unopened_files files rest none is clean))

-- a store was opened over them, and its schema was loaded
module _ {D : Type 0} {g : Ghosts D} (files : Files D) (old new : FileStore D g) (quiet :
    IsQuiet view faults recovers is_shielded old new) (is :
    IsLeftOf files (SqliteFailure NotADatabase) (leftover.Store old)) where
  pub empty_creation : (schema : Schema)
      → (IsClean (view new) → LoadsSchema (recovers old) (view new).trees (Ok schema))
      → schema ≡ empty_schema → IsFileCreationFault (image_of g files) (leftover.Store new) NotOurs
  empty_creation schema loads empty is_clean =
      let clean : IsClean (view new) = no_doubt (view new).is_clean is_clean in (
        begun_store files old new quiet is is_clean,
        inr (inr (listed_as files old new quiet is schema
            (view new).trees (λ db. (db.schema ≡ empty_schema)
            × ¬ HoldsDatabase (image_of g files) db.trees) clean (loads clean) (
              empty,
              holds_none files old new quiet is clean (view new).trees,
            ))),
      )

  pub full_creation : (schema : Schema)
      → (IsClean (view new) → LoadsSchema (recovers old) (view new).trees (Ok schema))
      → ¬ (schema ≡ empty_schema) → IsFileCreationFault (image_of g files) (leftover.Store new)
      NotEmpty
  full_creation schema loads full is_clean =
      let clean : IsClean (view new) = no_doubt (view new).is_clean is_clean in (
        begun_store files old new quiet is is_clean,
        listed_as files old new quiet is schema
            (view new).trees (λ db. ¬ (db.schema ≡ empty_schema)) clean (loads clean) full,
      )

  pub load_creation : (fault : OpenFault) → IsCreationFault fault
      → (IsClean (view new) → LoadsSchema (recovers old) (view new).trees (Err fault))
      → IsFileCreationFault (image_of g files) (leftover.Store new) fault
  load_creation Store kind loads is_clean = tt
  load_creation NotOurs kind loads is_clean =
      let clean : IsClean (view new) = no_doubt (view new).is_clean is_clean in (
        begun_store files old new quiet is is_clean,
        inr (inl (listed_none files old new quiet is clean (loads clean))),
      )
  load_creation (OtherSchema has) kind loads is_clean = absurd kind
  load_creation Damaged kind loads is_clean = absurd kind
  load_creation NotEmpty kind loads is_clean =
      absurd (loads (no_doubt (view new).is_clean is_clean))
  load_creation Memory kind loads is_clean = tt
