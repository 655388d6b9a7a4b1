-- Why files are not migrated, by what they held.
use Rattle.std.proofs.Common.{◌≡◌, ◌∙◌, ap, inr, arith, IfSome, Option, Some, Err, subst, sym}
use Rattle.named_files.specs.Connections.{FailsToConnect}
use Rattle.sqlite.specs.declared.error.Error.{Error}
use Rattle.sqlite.specs.declared.error.Error.TheVariants.{SqliteFailure}
use Rattle.sqlite.specs.declared.error.ErrorCode.{ErrorCode}
use Rattle.sqlite.specs.declared.error.ErrorCode.TheVariants.{NotADatabase}
use Rattle.sqlite.specs.declared.file.Leftover.{Leftover}
use Rattle.sqlite.specs.declared.file.Leftover.TheVariants as leftover
use Rattle.sqlite.specs.Effect.{Database}
use Rattle.sqlite.specs.Files.{AreFoundIn, HoldsDatabase, file_state}
use Rattle.sqlite.specs.Held.{Held}
use Rattle.sqlite.specs.Recovery.{Image}
use Rattle.sqlite.specs.Start.{FindsIn}
use Rattle.sqlite.specs.State.{HasCleanDisk, IsLive, Opens, Survives}
use Rattle.sqlite.specs.Tree.{Trees}
use Rattle.sqlite_disk.specs.declared.Disk.{Ghosts}
use Rattle.sqlite_disk.specs.declared.Files.{Files}
use Rattle.sqlite_store.specs.FileStore.{faults, is_shielded, recovers, view}
use Rattle.sqlite_store.specs.declared.store.FileStore.{FileStore}
use Rattle.sqlite_trees.specs.View.{IsQuiet}
use Rattle.store_schema.specs.FileFaults.{FileHas, IsFileFault, IsLeftOf}
use Rattle.store_schema.specs.FirstSchema.{ClassifiesFirstSchema, IsFirstSchema}
use Rattle.store_schema.proofs.LeftoverLemmas.{still_clean}
use Rattle.store_schema.specs.declared.open_fault.OpenFault.{OpenFault}
use Rattle.store_schema.specs.declared.open_fault.OpenFault.TheVariants.{Store, NotOurs}
use Rattle.store_schema.specs.declared.open_fault.OpenFault.TheVariants.{OtherSchema, Damaged}
use Rattle.store_schema.specs.declared.open_fault.OpenFault.TheVariants.{NotEmpty, Memory}
use Rattle.store_check.specs.OpenResults.{max_limits}
use Rattle.store_migration.specs.Migration.{IsMigrationRefusal, MigratesWellFormed}

-- ---- no connection was opened over the files

pub files_left : {D : Type 0} {g : Ghosts D} (image : Image) (error : Error) (rest :
    Option (Leftover D g)) (left : Leftover D g) → rest ≡ Some left
    → IfSome rest (FailsToConnect image error) → FailsToConnect image error left
files_left image error rest left is h = subst (λ r. IfSome r (FailsToConnect image error)) is h

-- since they hold no database
pub no_database_left : {D : Type 0} {g : Ghosts D} (files : Files D) (error : Error) (code :
    ErrorCode) (rest : Leftover D g) → error ≡ SqliteFailure code → code ≡ NotADatabase
    → IsLeftOf files error rest → IsLeftOf files (SqliteFailure NotADatabase) rest
no_database_left files error code rest is code_is h =
    subst (λ e. IsLeftOf files e rest) (is ∙ ap (λ c. SqliteFailure c) code_is) h

-- a connection was opened over the files, its migration was refused, and it was closed
module _ {D : Type 0} {g : Ghosts D} (image : Image) (conn new : Held (FileStore D g)) (last :
    FileStore D g) (opened : HasCleanDisk (file_state conn) → Opens (file_state conn)
    × IsLive (file_state conn)) (found : HasCleanDisk (file_state conn)
    → FindsIn image (file_state conn))
    (Commits : Trees → Type 0) (crash : Survives (file_state conn) (file_state new) Commits)
    (quiet : IsQuiet view faults recovers is_shielded new.store last) where
  -- it showed the tables in the files
  shown : (Fact : Database → Type 0) → HasCleanDisk (file_state new) → Fact (file_state conn).now
      → FileHas image Fact
  shown Fact clean fact =
      let before : HasCleanDisk (file_state conn) = omega (arith, clean, crash.clean) in
      let (opens, live) = opened before in record {
        db = (file_state conn).now;
        found = subst (λ (d : Database). AreFoundIn image d.trees) (sym opens.clean)
            (found before).reads;
        listed = (live opens.is_open).0.lists;
        fact = fact;
      }

  pub migration_fault : (fault : OpenFault) → (HasCleanDisk (file_state new)
      → IsMigrationRefusal max_limits (file_state conn).now fault)
      → IsFileFault image (leftover.Store last) ClassifiesFirstSchema
      (MigratesWellFormed max_limits) fault
  migration_fault Store h is_clean = tt
  migration_fault NotOurs h is_clean =
      let clean = still_clean new last quiet is_clean in
      inr (inr (shown (λ db. ClassifiesFirstSchema db (Err NotOurs)) clean (h clean)))
  migration_fault (OtherSchema has) h is_clean =
      let clean = still_clean new last quiet is_clean in
      shown (λ db. ClassifiesFirstSchema db (Err (OtherSchema has))) clean (h clean)
  migration_fault Damaged h is_clean =
      let clean = still_clean new last quiet is_clean in
      shown (λ db. IsFirstSchema db × ¬ (MigratesWellFormed max_limits db
      × HoldsDatabase image db.trees)) clean (
        (h clean).0,
        λ both. (h clean).1 both.0.0 both.0.1
            both.0.2,
      )
  migration_fault NotEmpty h is_clean = absurd (h (still_clean new last quiet is_clean))
  migration_fault Memory h is_clean = tt
