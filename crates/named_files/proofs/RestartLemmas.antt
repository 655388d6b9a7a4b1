-- What a crash leaves of the files of a connection that is used no more, and what an opening shows.
use Rattle.std.proofs.Common.{◌≡◌, inl, inr, IfErr, IfOk, IsTrue, Result, Ok, Err, sym, ap, subst}
use Rattle.std.proofs.Common.{◌∙◌, arith}
use Rattle.std.proofs.Math.Logic.{∥∥₁_map}
use Rattle.sqlite.specs.Effect.{Database}
use Rattle.sqlite.specs.Files.{Finds, FailsToOpenFiles, HoldsDatabase, IsCleanLeft, IsOpened}
use Rattle.sqlite.specs.Files.{LeavesFiles}
use Rattle.sqlite.specs.Files.{file_state, image_of}
use Rattle.sqlite.specs.Held.{Held, AreDatabases}
use Rattle.sqlite.specs.State.{HasCleanDisk}
use Rattle.sqlite.specs.Tree.{Trees}
use Rattle.sqlite.specs.WalFiles.{outcomes}
use Rattle.sqlite.specs.WalReads.{AreClean}
use Rattle.sqlite.specs.declared.error.Error.{Error}
use Rattle.sqlite.specs.declared.file.Leftover.{Leftover}
use Rattle.sqlite_catalog.specs.Listing.{Lists}
use Rattle.sqlite_catalog.proofs.ReadLemmas.{lists_once}
use Rattle.sqlite_disk.specs.declared.Disk.{Ghosts}
use Rattle.sqlite_disk.specs.declared.Files.{Files}
use Rattle.sqlite_store.specs.FileStore as store
use Rattle.sqlite_store.specs.declared.store.FileStore.{FileStore}
use Rattle.sqlite_trees.specs.Objects.{catalog_tree}
use Rattle.sqlite_trees.specs.View.{IsClean, IsQuiet}
use Rattle.sqlite_trees.proofs.Doubt.{no_doubt}
use Rattle.named_files.specs.Leftovers.{LeavesTheSame}
use Rattle.named_files.specs.Restarts.{HasOpenCause, HoldsListed, LeaveOneOf, LeaveSealedOneOf}
use Rattle.named_files.specs.Restarts.{ShowsOpened}
use Rattle.named_files.proofs.SealedLemmas.{leaves_the_same, sealed_holds, sealed_left}

-- the files of a store that is sound and numbered, as `into_store` leaves it
pub sealed_in_files : {D : Type 0} {g : Ghosts D} (it : FileStore D g) (Allowed : Trees
    → Type 0) (files : Files D) → (files.log, files.db) ≡ store.files it
    → (IsClean (store.view it) → IsTrue (store.view it).is_numbered)
    → (IsClean (store.view it) → AreDatabases (store.recovers it))
    → ((db : Trees) → store.recovers it db → Allowed db)
    → LeaveSealedOneOf g files Allowed
unfolding Rattle.sqlite_pool.specs.Pool.state Rattle.sqlite_pool.specs.Pool.files
sealed_in_files {D = D} {g = g} it Allowed files same numbered sound allowed clean image may =
    let at : AreClean g (store.files it).0 (store.files it).1 =
    subst (λ (q : D × D). AreClean g q.0 q.1) same clean in
    let left : outcomes g (store.files it).0 (store.files it).1 image =
    subst (λ (q : D × D). outcomes g q.0 q.1 image) same may in
    let honest : IsClean (store.view it) = no_doubt _ at in
    ∥∥₁_map (sealed_left it (numbered honest) (sound honest) image (at, left))
    (λ db. (db.0, allowed db.0 db.1, db.2))

-- an opening accepts them
pub left_in_files : {D : Type 0} (g : Ghosts D) (files : Files D) (Allowed : Trees → Type 0)
    → LeaveSealedOneOf g files Allowed → LeaveOneOf g files Allowed
left_in_files g files Allowed leaves clean image may =
    ∥∥₁_map (leaves clean image may) (λ db. (db.0, db.1, sealed_holds image db.0 db.2))

-- if the disk has returned what was written until the store is closed, it had before
pub clean_in_files : {D : Type 0} {g : Ghosts D} (c : Held (FileStore D g)) (it : FileStore D g)
    (files : Files D) → (files.log, files.db) ≡ store.files it
    → IsQuiet store.view store.faults store.recovers store.is_shielded c.store it
    → AreClean g files.log files.db → HasCleanDisk (file_state c)
unfolding Rattle.sqlite_pool.specs.Pool.state Rattle.sqlite_pool.specs.Pool.files
clean_in_files {D = D} {g = g} c it files same quiet clean =
    let at : AreClean g (store.files it).0 (store.files it).1 =
    subst (λ (q : D × D). AreClean g q.0 q.1) same clean in
    let honest : IsClean (store.view it) = no_doubt _ at in
    let fewer = quiet.clean in
    omega (arith, fewer, honest)

-- an opening shows the database that the files held
pub opens_as : {D : Type 0} {g : Ghosts D} {E : Type 0} (files : Files D) (r :
    Result (Held (FileStore D g)) E) → IfOk r (λ c. HasCleanDisk (file_state c) → IsOpened c)
    → IfOk r (λ c. HasCleanDisk (file_state c) → Finds files c)
    → (db : Database) → HoldsListed (image_of g files) db → IfOk r (λ c. HasCleanDisk (file_state c)
    → ShowsOpened (file_state c) db)
opens_as files (Ok c) opened found db held = λ clean.
    let it = opened clean in
    let trees : (file_state c).now.trees ≡ db.trees = ap (λ (d : Database). d.trees) it.0.clean
    ∙ (found clean).holds db.trees held.holds in
    let lists = (it.1 it.0.is_open).0.lists in
    let schema : (file_state c).now.schema ≡ db.schema =
    lists_once _ _ _ lists (subst (λ (t : Trees). Lists (t catalog_tree) db.schema) (sym trees)
    held.lists) in
    record { shows = λ i. record { schema = schema i; trees = trees i }; opened = it.0 }
opens_as files (Err e) opened found db held = tt

-- an opening of files that hold a database fails with a cause
pub fails_with_cause : {D : Type 0} {g : Ghosts D} {T : Type 0} (files : Files D) (r :
    Result T (Error × Leftover D g)) → IfErr r (λ e. IsCleanLeft e.1
    → FailsToOpenFiles files e.1 e.0)
    → (db : Trees) → HoldsDatabase (image_of g files) db → IfErr r (λ e. IsCleanLeft e.1
    → HasOpenCause files e.1 e.0)
fails_with_cause files (Ok c) fails db holds = tt
fails_with_cause files (Err e) fails db holds = λ clean. elim (fails clean) [
  | inl memory ↦ inl memory
  | inr (inl refused) ↦ absurd (refused.1 (inl (db, holds)))
  | inr (inr (inl fault)) ↦ inr (inl fault.1)
  | inr (inr (inr full)) ↦ inr (inr full)
]

-- files that were opened over an honest disk are clean
pub found_honest : {D : Type 0} {g : Ghosts D} (files : Files D) (r : Result (Held (FileStore D g))
    (Error × Leftover D g)) → IfOk r (λ c. HasCleanDisk (file_state c) → Finds files c)
    → IfOk r (λ c. HasCleanDisk (file_state c) → AreClean g files.log files.db)
found_honest files (Ok c) found = λ clean. (found clean).honest
found_honest files (Err e) found = tt

-- a crash of what an opening that failed left leaves what it could leave, or the same database
pub failed_leaves : {D : Type 0} {g : Ghosts D} {T : Type 0} (files : Files D) (r :
    Result T (Error × Leftover D g)) → IfErr r (λ e. IsCleanLeft e.1 → LeavesFiles files e.1)
    → IfErr r (λ e. LeavesTheSame files e.1)
failed_leaves files (Ok c) leaves = tt
failed_leaves files (Err e) leaves = leaves_the_same files e.1 leaves
