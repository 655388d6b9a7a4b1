-- Files that hold a database as a store leaves it hold it after an opening that failed.
use Rattle.std.proofs.Common.{◌≡◌, ℕ, ◌%◌, ◌≤◌, ◌≢◌, List, length, take, take_all, Option}
use Rattle.std.proofs.Common.{Some, None, option_map, IsTrue, inl, inr, refl, sym, ap, subst, ◌∙◌}
use Rattle.std.proofs.Common.{arith, eq-eqb, ne_eqb}
use Rattle.std.proofs.Math.Logic.{∥∥₁_elim, ∥∥₁_map}
use Rattle.std.proofs.Math.Path.{fun_ext}
use Rattle.std.proofs.lemmas.Bool.{cases_Bool, cases_eq}
use Rattle.sqlite.specs.Closing.{files_left}
use Rattle.sqlite.specs.Files.{HoldsDatabase, IsCleanLeft, LeavesFiles, NamesSize, SaysSums}
use Rattle.sqlite.specs.Files.{image_of}
use Rattle.sqlite.specs.Held.{AreDatabases}
use Rattle.sqlite.specs.Recovery.{Image}
use Rattle.sqlite.specs.Tree.{Trees}
use Rattle.sqlite.specs.WalFiles.{outcomes}
use Rattle.sqlite.specs.WalReads.{AreClean}
use Rattle.sqlite.specs.declared.file.Leftover.{Leftover}
use Rattle.sqlite.specs.declared.file.Leftover.TheVariants as leftover
use Rattle.sqlite.proofs.FileLemmas.{is_something}
use Rattle.sqlite_disk.specs.declared.Disk.{Ghosts}
use Rattle.sqlite_disk.specs.declared.Files.{Files}
use Rattle.sqlite_pool.specs.Stored.{Adopts, StandsAs, is_among, is_summed, resealed, reserved}
use Rattle.sqlite_pool.specs.Stored.{sealed, stored_size}
use Rattle.sqlite_pool.proofs.ProbeLemmas.{reserved_word, size_by_file, size_by_log}
use Rattle.sqlite_pool.proofs.ResealLemmas.{adopts_of}
use Rattle.sqlite_pool.proofs.StateLemmas.{size_is_allowed}
use Rattle.sqlite_store.specs.FileStore.{reading, recovers, schema_in, state, view}
use Rattle.sqlite_store.specs.Listing.{IsOurs}
use Rattle.sqlite_store.specs.Unopened.{state_of}
use Rattle.sqlite_store.specs.declared.store.FileStore.{FileStore}
use Rattle.sqlite_wal.specs.Recovery.{IsIgnored}
use Rattle.sqlite_wal.specs.Recovery as raw
use Rattle.named_files.specs.Leftovers.{LeavesTheSame, MayLeaveOf}
use Rattle.named_files.specs.Restarts.{HoldsSealed}

-- such files hold a database, which an opening accepts
pub sealed_holds : (image : Image) (db : Trees) → HoldsSealed image db → HoldsDatabase image db
sealed_holds image db held = (
  held.0,
  held.1,
  record {
    pages = held.2.pages;
    wanted = held.2.wanted;
    schema = held.2.schema;
    found = adopts_of held.0 image held.2.pages held.2.found;
    ours = held.2.ours;
    reads = held.2.reads;
    sound = held.2.sound;
  },
)

-- whatever a crash leaves of a store is such files
pub sealed_left : {D : Type 0} {g : Ghosts D} (it : FileStore D g) → IsTrue (view it).is_numbered
    → AreDatabases (recovers it) → (image : Image) → (state it).may_leave image
    → ∥ ((db : Trees) × recovers it db × HoldsSealed image db) ∥₁
sealed_left it numbered sound image may = ∥∥₁_elim it.safe squash₁ (λ all.
    let found = all image may in
    let db = reading it found.0 in
    let allowed : recovers it db = (image, found.0, may, ∣ found.1 ∣₁, refl) in
    let schema = sound db allowed in
    ∥∥₁_elim (size_is_allowed it.pool) squash₁ (λ size. ∥∥₁_map found.2 (λ ours.
    let r : (x : Trees) × recovers it x × HoldsSealed image x = (
      db,
      allowed,
      (
        (state it).page_size,
        size,
        record {
          pages = found.0;
          wanted = schema_in it found.0;
          schema = schema.0;
          found = found.1;
          reads = refl;
          sound = schema.1;
          ours = subst (λ b. IsOurs (state it).page_size b (schema_in it found.0) found.0) numbered
              ours;
        },
      ),
    ) in r)))

-- ---- pages whose sums are right

same_page : (size : ℕ) (page : Option (List ℕ))
    → ((bytes : List ℕ) → page ≡ Some bytes → sealed (take size bytes) ≡ bytes)
    → option_map (λ bytes. sealed (take size bytes)) page ≡ page
same_page size None same = refl
same_page size (Some bytes) same = ap Some (same bytes refl)

-- sums are written over pages that have them already
same_pages : (size : ℕ) (numbers : List ℕ) (pages : raw.Pages)
    → ((n : ℕ) (bytes : List ℕ) → pages n ≡ Some bytes → sealed (take size bytes) ≡ bytes)
    → resealed size numbers pages ≡ pages
unfolding resealed
same_pages size numbers pages same = fun_ext λ n. elim (cases_Bool (is_among numbers n)) [
  | inl among ↦ rw among (same_page size (pages n) (same n))
  | inr other ↦ rw other refl
]

-- a page of a size without sums has none
unsummed : (size : ℕ) (bytes : List ℕ) → size % 16 ≢ 8 → length bytes ≡ size
    → sealed (take size bytes) ≡ bytes
unfolding sealed
unsummed size bytes off len =
    rw (take_all size bytes (omega (arith, len)), len, ne_eqb (size % 16) 8 off)

module _ (image : Image) (db : Trees) (held : HoldsSealed image db) where
  large : 504 ≤ held.0
  large = let few : reserved held.0 ≤ 8 = grind arith in omega (arith, held.1.0)

  adopted : Adopts held.0 image held.2.pages
  adopted = adopts_of held.0 image held.2.pages held.2.found

  -- the size that the files name is that of their pages
  same_size : (size : ℕ) → NamesSize image size → size ≡ stored_size held.0
  same_size size named = elim (cases_eq size (stored_size held.0)) [
    | inl same ↦ same
    | inr other ↦
        let never : ¬ (¬ IsIgnored image.log) = λ seen. other (named.0 seen
        ∙ size_by_log held.0 image held.2.pages adopted seen) in
        absurd (never (λ ignored. other (named.1 ignored
        ∙ size_by_file held.0 image held.2.pages adopted large held.2.ours.file.sound
        ignored)))
  ]

  module _ (size : ℕ) (named : NamesSize image (stored_size size)) (says :
      IsTrue (is_summed size) → SaysSums (stored_size size) image) where
    -- each page has the right sum for pages of this size
    still_sealed : (n : ℕ) (bytes : List ℕ) → held.2.found.stored n ≡ Some bytes
        → sealed (take size bytes) ≡ bytes
    still_sealed n bytes is =
        let stored : stored_size size ≡ stored_size held.0 = same_size (stored_size size) named in
        elim (cases_eq (size % 16) 8) [
          | inl on ↦
              let eight : reserved size ≡ 8 = rw (eq-eqb _ 8 on) refl in
              let page = reserved_word held.0 image held.2.pages adopted large
              held.2.ours.file.sound in
              let summed : IsTrue (is_summed size) = rw (eq-eqb _ 8 on) refl in
              let word = says summed adopted.stored page.0
              (subst (λ k. raw.Recovers k image adopted.stored) (sym stored) adopted.found)
              page.1 (page.2 ∙ sym stored) in
              let ours : reserved held.0 ≡ 8 = omega (arith, word, page.3) in
              let same : held.0 ≡ size = omega (arith, stored, eight, ours) in
              sym (held.2.found.sealed n bytes is
              ∙ ap (λ k. sealed (take k bytes)) same)
          | inr off ↦
              let none : reserved size ≡ 0 = rw (ne_eqb _ 8 off) refl in
              unsummed size bytes off (held.2.found.whole.sized n bytes is
              ∙ sym stored ∙ omega (arith, none))
        ]

    -- so files that stand for these hold the same database
    pub still_held : (new : Image) → StandsAs size image new → HoldsSealed new db
    still_held new stands =
        let stored : stored_size size ≡ stored_size held.0 = same_size (stored_size size) named in
        let pages = held.2.found.stored in
        let found : raw.Recovers (stored_size size) image pages =
        subst (λ k. raw.Recovers k image pages) (sym stored) held.2.found.found in
        let now : raw.Recovers (stored_size size) new pages = elim stands.0 [
          | inl alike ↦ alike pages found
          | inr summed ↦ elim (summed.2 pages found) [
            | inl same ↦ same
            | inr sums ↦ subst (raw.Recovers (stored_size size) new)
                (same_pages size summed.0 pages still_sealed) sums
          ]
        ] in
        let again : raw.Recovers (stored_size held.0) new pages =
        subst (λ k. raw.Recovers k new pages) stored now in (
          held.0,
          held.1,
          record {
            pages = held.2.pages;
            wanted = held.2.wanted;
            schema = held.2.schema;
            found = record {
              stored = pages;
              found = again;
              whole = held.2.found.whole;
              sealed = held.2.found.sealed;
              shows = held.2.found.shows;
              present = again.present;
            };
            ours = held.2.ours;
            reads = held.2.reads;
            sound = held.2.sound;
          },
        )

-- ---- what an opening that failed leaves

-- the store that is left is of the database that the files held
store_left : {D : Type 0} {g : Ghosts D} (files : Files D) (it : FileStore D g)
    → LeavesFiles files (leftover.Store it) → LeavesTheSame files (leftover.Store it)
unfolding Rattle.sqlite_pool.specs.Pool.state Rattle.sqlite_pool.specs.Pool.files
store_left {g = g} files it leaves clean numbered db held image may =
    let holds = sealed_holds (image_of g files) db held in
    let databases : AreDatabases (recovers it) = λ found recovered.
    let same : found ≡ db = (leaves found recovered).1 db holds in
    (held.2.schema, rw same held.2.sound) in
    inr (∥∥₁_map (sealed_left it numbered databases image (clean, may)) (λ found.
    subst (HoldsSealed image) ((leaves found.0 found.1).1 db holds) found.2))

pub leaves_the_same : {D : Type 0} {g : Ghosts D} (files : Files D) (left : Leftover D g)
    → (IsCleanLeft left → LeavesFiles files left) → LeavesTheSame files left
unfolding Rattle.sqlite_pool.specs.Pool.state Rattle.sqlite_pool.specs.Pool.files
leaves_the_same files (leftover.Files now) leaves clean numbered db held image may =
    inl (leaves clean image may)
leaves_the_same {g = g} files (leftover.Unopened now) leaves clean numbered db held image may =
    elim (leaves clean) [
      | inl nothing ↦ absurd (is_something (image_of g files) db
          (sealed_holds (image_of g files) db held) nothing.0)
      | inr kept ↦ elim (kept.4 image (clean, may)).same [
        | inl before ↦ inl before
        | inr stands ↦ inr ∣ still_held (image_of g files) db held (state_of now).page_size
            kept.1 kept.3 image stands ∣₁
      ]
    ]
leaves_the_same files (leftover.Store now) leaves clean numbered db held image may =
    store_left files now (leaves clean) clean numbered db held image may

-- ---- a crash of what is left

pub left_may : {D : Type 0} {g : Ghosts D} (left : Leftover D g) (log db : D)
    → (log, db) ≡ files_left left → (image : Image) → outcomes g log db image
    → MayLeaveOf left image
left_may {D = D} {g = g} left log db same image may =
    subst (λ (q : D × D). outcomes g q.0 q.1 image) same may

still_clean : {D : Type 0} {g : Ghosts D} (left : Leftover D g)
    → AreClean g (files_left left).0 (files_left left).1 → IsCleanLeft left
unfolding Rattle.sqlite_pool.specs.Pool.state Rattle.sqlite_pool.specs.Pool.files
still_clean (leftover.Files files) clean = clean
still_clean (leftover.Unopened files) clean = clean
still_clean (leftover.Store it) clean = clean

pub left_clean : {D : Type 0} {g : Ghosts D} (left : Leftover D g) (log db : D)
    → (log, db) ≡ files_left left → AreClean g log db → IsCleanLeft left
left_clean {D = D} {g = g} left log db same clean =
    still_clean left (subst (λ (q : D × D). AreClean g q.0 q.1) same clean)
