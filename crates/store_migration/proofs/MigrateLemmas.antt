-- The whole migration: the plan, and then its one transaction.
use Rattle.std.proofs.Common.{◌⊎◌, inl, inr, List, map, IsPermutation, sym, subst, ◌∙◌}
use Rattle.std.specs.Prelude.{⊤}
use Rattle.std.proofs.lemmas.List.{map-id}
use Rattle.std.proofs.lemmas.List.Sorted.{IsPermutation-map, IsPermutation-refl}
use Rattle.std.proofs.lemmas.List.Sorted.{IsPermutation-sym, IsPermutation-trans}
use Rattle.sqlite.specs.Effect.{Database}
use Rattle.sqlite.specs.Order.{Row}
use Rattle.sqlite.specs.State.{State, HasCleanDisk, IsUnchanged, Survives}
use Rattle.sqlite.specs.Tree.{Trees}
use Rattle.sqlite.proofs.StateLemmas.{survives_then}
use Rattle.sqlite_trees.proofs.ListLemmas.{map-map}
use Rattle.book_model.specs.Bounds.{Bounds}
use Rattle.store_tables.specs.Keeps.{KeepRow, keep_row}
use Rattle.store_tables.specs.Tables.{book_schema}
use Rattle.store_check.proofs.PermutedLemmas.{sound_moved}
use Rattle.store_rows.specs.SoundTables.{HoldsWellFormed}
use Rattle.store_rows.specs.TableRows.{load_keep, rows_in}
use Rattle.store_migration.specs.Migration.{CommitsMigration, IsMigrated, AddsKeeps}
use Rattle.store_migration.specs.internal.MigrationPlans.{IsMigrationPlan}
use Rattle.store_migration.specs.internal.MigrationWrites.{AcceptKeeps, IsFirstWithId}
use Rattle.store_migration.specs.internal.MigrationWrites.{TreesAddKeeps}
use Rattle.store_migration.specs.InitialKeeps.{initial_keeps}

-- the keeps in the order of the plan are the computed ones
pub migrated : (old new : Database) (keep_rows : List KeepRow)
    → IsPermutation (initial_keeps (rows_in old.trees)) keep_rows → AddsKeeps keep_rows old new
    → IsMigrated old new
migrated old new keep_rows same h = record {
  schema = h.schema;
  obeys = h.obeys;
  meta = h.meta;
  books = h.books;
  members = h.members;
  imports = h.imports;
  keeps_are = IsPermutation-trans _ _ _ (IsPermutation-map keep_row _ _ same) h.keeps_are;
}

-- the keeps in the order of the plan are those of different books that are there
pub accepts : (limits : Bounds) (db new : Database) (keep_rows : List KeepRow)
    → IsPermutation (initial_keeps (rows_in db.trees)) keep_rows → IsMigrated db new
    → (held : HoldsWellFormed limits new) → AcceptKeeps held.rows.books keep_rows
accepts limits db new keep_rows same made held =
    let loaded = λ (ks : List KeepRow). map-map load_keep keep_row ks ∙ map-id ks in
    let stored = IsPermutation-map load_keep _ _ (IsPermutation-trans _ _ _ held.holds.keeps
    (IsPermutation-sym _ _ made.keeps_are)) in
    let first = subst (λ l. IsPermutation l (map load_keep (map keep_row
    (initial_keeps (rows_in db.trees))))) (loaded held.rows.keeps) stored in
    let keeps = IsPermutation-trans _ _ _ (subst (IsPermutation held.rows.keeps)
    (loaded (initial_keeps (rows_in db.trees))) first) same in
    let there = sound_moved held.rows (record held.rows { keeps = keep_rows }) (record {
      books = IsPermutation-refl _;
      members = IsPermutation-refl _;
      imports = IsPermutation-refl _;
      keeps = keeps;
    }) held.well_formed.sound in
    record { apart = there.keeps; listed = there.listed_keeps }

-- a crash in one or the other, where the first commits nothing
pub survives_both : (a b c : State) (P : Trees → Type 0) → Survives a b (λ _. ⊥)
    → Survives b c (λ _. ⊤) → (HasCleanDisk c → (db : Trees) → c.may_leave db → b.may_leave db
    ⊎ P db) → (HasCleanDisk c → HasCleanDisk b) → Survives a c P
survives_both a b c P first next leaves early =
    let all = survives_then a b c _ _ (λ _. ⊤) (λ _ db none. tt) (λ _ db some. tt) first next in
    record {
      clean = all.clean;
      shield = all.shield;
      counts = all.counts;
      limit = all.limit;
      closes = all.closes;
      crash = λ clean db left. elim (leaves clean db left) [
        | inl before ↦ elim (first.crash (early clean) db before) [
          | inl old ↦ inl old
          | inr none ↦
              absurd none
        ]
        | inr done ↦ inr done
      ];
    }

module _ (limits : Bounds) (a b c : State) (keeps : List Row) (kept : HasCleanDisk b
    → IsUnchanged a b) (plan_migration : HasCleanDisk b → IsMigrationPlan limits a.now keeps) where
  pub first_with : (clean : HasCleanDisk b) → IsFirstWithId (plan_migration clean).numbered.id b.now
  first_with clean =
      let p = plan_migration clean in
      subst (IsFirstWithId p.numbered.id) (sym (kept clean).0.now_is)
      (record { schema = p.first.schema; one = p.numbered.one; fits = p.numbered.fits })

  pub is_migrated : (clean : HasCleanDisk b) (new : Database)
      → AddsKeeps (plan_migration clean).keep_rows b.now new → IsMigrated a.now new
  is_migrated clean new h =
      let p = plan_migration clean in
      migrated a.now new p.keep_rows p.same (subst (λ db. AddsKeeps p.keep_rows db new)
      (kept clean).0.now_is h)

  pub crash_commits : (clean : HasCleanDisk b) (db : Trees)
      → TreesAddKeeps (plan_migration clean).keep_rows b.now db → CommitsMigration limits a.now db
  crash_commits clean db h =
      let new : Database = record { schema = book_schema; trees = db } in
      let made = is_migrated clean new h in
      record {
        first = (plan_migration clean).first;
        migrated = made;
        well_formed = (plan_migration clean).makes_well_formed new made;
      }

  -- what a crash can leave of the two
  pub survives_migration : (HasCleanDisk c → HasCleanDisk b) → Survives a b (λ _. ⊥)
      → Survives b c (λ _. ⊤)
      → ((clean : HasCleanDisk b) → Survives b c (TreesAddKeeps (plan_migration clean).keep_rows
      b.now)) → Survives a c (CommitsMigration limits a.now)
  survives_migration early first next crash =
      survives_both a b c (CommitsMigration limits a.now) first next (λ clean db left.
      elim ((crash (early clean)).crash clean db left) [
        | inl before ↦ inl before
        | inr h ↦
            inr (crash_commits (early clean) db h)
      ]) early
