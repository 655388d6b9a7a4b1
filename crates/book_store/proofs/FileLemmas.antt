-- The state of a store after opening files.
use Rattle.std.proofs.Common.{◌≡◌, Bool, true, ap, ◌∙◌, sym, subst}
use Rattle.sqlite.specs.Effect.{Database}
use Rattle.sqlite.specs.Files.{AreFoundIn}
use Rattle.sqlite.specs.Start.{FindsIn}
use Rattle.sqlite.specs.State.{State, HasCleanDisk, IsLive, Opens, Survives}
use Rattle.sqlite.specs.Recovery.{Image}
use Rattle.store_schema.specs.StoredSchema.{ChangesNothing}
use Rattle.store_rows.specs.SoundTables.{HoldsWellFormed}
use Rattle.store_check.specs.OpenResults.{max_limits}
use Rattle.store_tables.specs.SchemaCreation.{empty_schema}
use Rattle.store_lookups.specs.StoredBooks.{IsOpenOnHonestDisk}
use Rattle.book_store.specs.OpenOutcomes.{AreNewStoreTrees, StartsWithoutTables}
use Rattle.book_store.specs.PageSums.{IsNewFile}

-- a connection that was just opened and only tested shows what the files held
pub found_well_formed : (old new : State) → ChangesNothing old new
    → (HasCleanDisk old → Opens old × IsLive old)
    → (IsOpenOnHonestDisk new → IsOpenOnHonestDisk old)
    → (IsOpenOnHonestDisk new → HoldsWellFormed max_limits old.now)
    → IsOpenOnHonestDisk new → HoldsWellFormed max_limits new.now
found_well_formed old new left opened before found order =
    let same = left.same order.0 order.1 (λ _. (opened (before order).0).0.clean) in
    subst (HoldsWellFormed max_limits) (sym same.now_is) (found order)

-- and so of what it found in the files
pub found_in_files : (image : Image) (old new : State) → ChangesNothing old new
    → (HasCleanDisk old → Opens old × IsLive old) → (HasCleanDisk old → FindsIn image old)
    → (IsOpenOnHonestDisk new → IsOpenOnHonestDisk old)
    → IsOpenOnHonestDisk new → FindsIn image new
found_in_files image old new left opened found before order =
    let was = before order in
    let same = left.same order.0 order.1 (λ _. (opened was.0).0.clean) in
    let held = found was.0 in
    record {
      holds = λ db is. ap (λ (d : Database). d.trees) same.committed_is ∙ held.holds db is;
      reads = subst (λ (d : Database). AreFoundIn image d.trees) (sym same.committed_is) held.reads;
    }

-- a store that was created in files began with what the files held, which had no tables
pub created_start : {C : Type 0} (state_of : C → State) (has_sums : C → Bool) (image : Image)
    (old new : C)
    → (HasCleanDisk (state_of old) → FindsIn image (state_of old))
    → (HasCleanDisk (state_of old) → IsNewFile image → has_sums old ≡ true)
    → (IsOpenOnHonestDisk (state_of new) → IsOpenOnHonestDisk (state_of old))
    → (state_of old).now.schema ≡ empty_schema
    → Survives (state_of old) (state_of new) AreNewStoreTrees
    → IsOpenOnHonestDisk (state_of new) → StartsWithoutTables state_of has_sums image new
created_start state_of has_sums image old new found summed before empty crash order =
    record {
      start = old;
      found = found (before order).0;
      was_empty = empty;
      sums = summed (before order).0;
      crash = crash;
    }
