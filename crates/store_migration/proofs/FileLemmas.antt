-- The migration of the tables in files.
use Rattle.std.proofs.Common.{◌≡◌, ℕ, length}
use Rattle.sqlite.specs.Recovery.{Image}
use Rattle.sqlite.specs.Start.{FindsIn}
use Rattle.sqlite.specs.State.{State, HasCleanDisk, IsLive, Opens, Survives}
use Rattle.store_check.specs.OpenResults.{max_limits}
use Rattle.store_rows.specs.SoundTables.{HoldsWellFormed}
use Rattle.store_schema.specs.FirstSchema.{IsFirstSchema}
use Rattle.store_tables.proofs.SchemaCreationLemmas.{clean_before}
use Rattle.store_migration.specs.Migration.{CommitsMigration, IsMigrated, MigratesFrom}

-- a connection that was just opened was migrated: the files held what it showed at first
pub migrated_from : {C : Type 0} (state_of : C → State) (image : Image) (old new : C) (count : ℕ)
    → (HasCleanDisk (state_of old) → Opens (state_of old) × IsLive (state_of old))
    → (HasCleanDisk (state_of old) → FindsIn image (state_of old))
    → (HasCleanDisk (state_of new) → IsFirstSchema (state_of old).now)
    → (HasCleanDisk (state_of new) → IsMigrated (state_of old).now (state_of new).now)
    → (HasCleanDisk (state_of new) → HoldsWellFormed max_limits (state_of new).now)
    → (HasCleanDisk (state_of new) → (state_of new).now ≡ (state_of new).committed)
    → (HasCleanDisk (state_of new) → count ≡ length ((state_of old).now.trees 2))
    → Survives (state_of old) (state_of new) (CommitsMigration max_limits (state_of old).now)
    → HasCleanDisk (state_of new) → MigratesFrom state_of image count new
migrated_from state_of image old new count opened found first migrated well_formed committed counted
    crash clean =
    let before = clean_before _ (state_of old) (state_of new) crash clean in
    record {
      start = old;
      found = found before;
      was_committed = (opened before).0.clean;
      first = first clean;
      migrated = migrated clean;
      well_formed = well_formed clean;
      committed = committed clean;
      count_is = counted clean;
      crash = crash;
    }
