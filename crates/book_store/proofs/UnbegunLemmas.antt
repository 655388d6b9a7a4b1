-- A creation over files that hold nothing, or a database without tables, isn't refused for it.
use Rattle.std.proofs.Common.{◌≡◌, inl, inr, [], sym, ap, subst, ◌∙◌}
use Rattle.sqlite.specs.declared.error.Error.TheVariants.{SqliteFailure}
use Rattle.sqlite.specs.declared.error.ErrorCode.TheVariants.{NotADatabase}
use Rattle.sqlite.specs.declared.file.Leftover.{Leftover}
use Rattle.sqlite.specs.declared.file.Leftover.TheVariants as leftover
use Rattle.sqlite.specs.Effect.{Database}
use Rattle.sqlite.specs.Files.{FailsToOpenFiles, IsCleanLeft, IsEmpty, image_of}
use Rattle.sqlite.specs.Recovery.{Image}
use Rattle.sqlite.specs.Start.{FindsIn}
use Rattle.sqlite.specs.State.{State, IsLive, Opens, store_error}
use Rattle.sqlite.proofs.ListingLemmas.{empty_is_sound}
use Rattle.sqlite_catalog.proofs.ReadLemmas.{lists_once}
use Rattle.sqlite_disk.specs.declared.Disk.{Ghosts}
use Rattle.sqlite_disk.specs.declared.Files.{Files}
use Rattle.sqlite_store.specs.FileStore.{faults, is_shielded, recovers, view}
use Rattle.sqlite_store.specs.declared.store.FileStore.{FileStore}
use Rattle.sqlite_trees.specs.Objects.{catalog_tree}
use Rattle.sqlite_trees.specs.View.{IsQuiet}
use Rattle.sqlite_trees.specs.declared.error.StoreError.{StoreError}
use Rattle.sqlite_trees.specs.declared.error.StoreError.TheVariants as stored
use Rattle.named_files.proofs.NothingLemmas.{nothing_found}
use Rattle.store_tables.specs.SchemaCreation.{empty_schema}
use Rattle.store_schema.specs.FileFaults.{IsLeftOf}
use Rattle.store_schema.proofs.LeftoverLemmas.{store_still_clean}
use Rattle.book_store.specs.FileRefusals.{IsUnbegun}

-- ---- a connection was opened over them

unbegun_trees : (image : Image) (s : State) → FindsIn image s → IsUnbegun image
    → IsEmpty s.committed.trees
unbegun_trees image s found (inl nothing) = nothing_found image s.committed.trees nothing found.reads
unbegun_trees image s found (inr empty) =
    subst IsEmpty (sym (found.holds empty.0 empty.1)) empty.2

-- it shows no tables
pub unbegun_schema : (image : Image) (s : State) → FindsIn image s → Opens s × IsLive s
    → IsUnbegun image → s.now.schema ≡ empty_schema
unbegun_schema image s found opened unbegun =
    let none : s.now.trees catalog_tree ≡ [] =
    ap (λ (db : Database). db.trees catalog_tree) opened.0.clean
    ∙ (unbegun_trees image s found unbegun).1 in
    lists_once (s.now.trees catalog_tree) s.now.schema empty_schema
    (opened.1 opened.0.is_open).0.lists (empty_is_sound s.now.trees none).lists

-- ---- no connection was opened over them

not_of_store : (kind : StoreError) → ¬ (SqliteFailure NotADatabase ≡ store_error kind)
not_of_store stored.OutOfMemory e = absurd cc
not_of_store stored.Io e = absurd cc
not_of_store stored.Corrupt e = absurd cc
not_of_store stored.Full e = absurd cc
not_of_store stored.Broken e = absurd cc
not_of_store stored.Unstorable e = absurd cc

module _ {D : Type 0} {g : Ghosts D} where
  never_refused : (files : Files D) (rest : Leftover D g)
      → FailsToOpenFiles files rest (SqliteFailure NotADatabase) → ¬ IsUnbegun (image_of g files)
  never_refused files rest (inl memory) unbegun = absurd cc
  never_refused files rest (inr (inl refused)) (inl nothing) = refused.1 (inr nothing)
  never_refused files rest (inr (inl refused)) (inr empty) = refused.1 (inl (empty.0, empty.1))
  never_refused files rest (inr (inr (inl fault))) unbegun = not_of_store _ fault.0
  never_refused files rest (inr (inr (inr full))) unbegun = absurd (let e = full.0 in cc)

  -- files that are no database aren't such files
  pub begun_files : (files : Files D) (rest : Leftover D g)
      → IsLeftOf files (SqliteFailure NotADatabase) rest → IsCleanLeft rest
      → ¬ IsUnbegun (image_of g files)
  begun_files files rest is clean = never_refused files rest (is clean).0

  pub begun_store : (files : Files D) (old new : FileStore D g)
      → IsQuiet view faults recovers is_shielded old new
      → IsLeftOf files (SqliteFailure NotADatabase) (leftover.Store old)
      → IsCleanLeft (leftover.Store new) → ¬ IsUnbegun (image_of g files)
  begun_store files old new quiet is clean =
      begun_files files (leftover.Store old) is (store_still_clean old new quiet clean)
