-- Why a file at a path that holds a store doesn't open.
use Rattle.std.proofs.Common.{◌≡◌, ◌⊎◌, inl, inr, IfErr, IfSome, Option, Some, None, ap, refl, sym}
use Rattle.std.proofs.Common.{◌∙◌, Err, Ok, Result, subst}
use Rattle.sqlite.specs.declared.error.Error.{Error}
use Rattle.sqlite.specs.declared.error.Error.TheVariants.{SqliteFailure}
use Rattle.sqlite.specs.declared.error.ErrorCode.TheVariants.{NotADatabase}
use Rattle.sqlite.specs.declared.file.Leftover.{Leftover}
use Rattle.sqlite.specs.Effect.{Database}
use Rattle.sqlite.specs.Files.{FailsToOpenFiles, HoldsDatabase, IsCleanLeft, IsFullLeft}
use Rattle.sqlite.specs.Files.{image_of}
use Rattle.sqlite.specs.Recovery.{Image}
use Rattle.sqlite.specs.Start.{FindsIn}
use Rattle.sqlite.specs.State.{IsLive, Opens, State, store_error}
use Rattle.sqlite.specs.Tree.{Trees}
use Rattle.sqlite_catalog.specs.Listing.{Lists}
use Rattle.sqlite_catalog.proofs.ReadLemmas.{lists_once}
use Rattle.sqlite_disk.specs.declared.Disk.{Ghosts}
use Rattle.sqlite_disk.specs.declared.Files.{Files}
use Rattle.sqlite_trees.specs.Objects.{catalog_tree}
use Rattle.sqlite_trees.specs.declared.error.StoreError.{StoreError}
use Rattle.sqlite_trees.specs.declared.error.StoreError.TheVariants as stored
use Rattle.book_model.specs.Books.{Books}
use Rattle.named_files.specs.Connections.{FailsToConnect, IsUnopenedError}
use Rattle.named_files.specs.Restarts.{ShowsOpened}
use Rattle.store_schema.proofs.LeftoverLemmas.{no_database}
use Rattle.store_schema.specs.OpenFaults.{open_fault_of_error}
use Rattle.store_schema.specs.declared.open_fault.OpenFault.{OpenFault}
use Rattle.store_schema.specs.declared.open_fault.OpenFault.TheVariants.{Memory, Store}
use Rattle.book_store.specs.FileRefusals.{ForgetsNoFault, IsFileOpenRefusal, IsUnlessNoDatabase}
use Rattle.book_store.specs.FileRefusals.{IsUnlessEmpty}
use Rattle.book_store.specs.Restarts.{FailsAtOpening, FailsOnceOpened, HasPathCause, HoldsStore}
use Rattle.book_store.specs.Restarts.{declared_over}

-- a connection that was opened over such a file shows its store
pub shown_at : (image : Image) (books : Books) (holds : HoldsStore image books) (s : State)
    → Opens s × IsLive s → FindsIn image s → ShowsOpened s (declared_over holds.trees)
shown_at image books holds s (opens, live) found =
    let trees : s.now.trees ≡ holds.trees = ap (λ (d : Database). d.trees) opens.clean
    ∙ found.holds holds.trees holds.listed.holds in
    let lists = (live opens.is_open).0.lists in
    let db = declared_over holds.trees in
    let schema : s.now.schema ≡ db.schema =
    lists_once _ _ _ lists (subst (λ (t : Trees). Lists (t catalog_tree) db.schema) (sym trees)
    holds.listed.lists) in
    record { shows = λ i. record { schema = schema i; trees = trees i }; opened = opens }

-- ---- no connection was opened

-- a fault of the disk is told as `Store`, or as lack of memory
other_fault : (kind : StoreError) → (open_fault_of_error (store_error kind) ≡ Memory)
    ⊎ (open_fault_of_error (store_error kind) ≡ Store)
other_fault stored.OutOfMemory = inl refl
other_fault stored.Io = inr refl
other_fault stored.Corrupt = inr refl
other_fault stored.Full = inr refl
other_fault stored.Broken = inr refl
other_fault stored.Unstorable = inr refl

module _ {D : Type 0} {g : Ghosts D} where
  -- an opening of files with these bytes failed so, and this was left of them
  pub record FailsWith (image : Image) (error : Error) (left : Leftover D g) : Type 0 where
    pub files : Files D
    pub image_is : image_of g files ≡ image
    pub fails : IsCleanLeft left → FailsToOpenFiles files left error

  pub fails_with : (image : Image) (error : Error) (rest : Option (Leftover D g))
      → IfSome rest (FailsToConnect image error) → IfSome rest (FailsWith image error)
  fails_with image error None h = tt
  fails_with image error (Some left) h = record {
    files = h.0;
    image_is = h.1;
    fails = λ clean. (h.2 clean).0;
  }

  -- what is said if no files were opened isn't that they hold no database
  pub named_apart : (error : Error) (rest : Option (Leftover D g))
      → (rest ≡ None → IsUnopenedError error) → rest ≡ None → ¬ (error ≡ SqliteFailure NotADatabase)
  named_apart error rest names none is = elim (names none) [
    | inl other ↦ let two = sym other ∙ is in cc
    | inr (inl other) ↦ let two = sym other ∙ is in cc
    | inr (inr other) ↦ let two = sym other ∙ is in cc
  ]

  -- why an opening of files with these bytes failed, which hold a store
  left_cause : (image : Image) (db : Database) (trees : Trees) → HoldsDatabase image trees
      → (error : Error) (left : Leftover D g) (fault : OpenFault) → FailsWith image error left
      → IsCleanLeft left → fault ≡ open_fault_of_error error
      → (fault ≡ Memory) ⊎ ((fault ≡ Store) × (FailsAtOpening image left
      ⊎ (FailsOnceOpened db left ⊎ IsFullLeft left)))
  left_cause image db trees holds error left fault failed clean fault_is =
      elim (failed.fails clean) [
        | inl memory ↦ inl (fault_is ∙ ap open_fault_of_error memory)
        | inr (inl refused) ↦ absurd (refused.1 (inl (
          trees,
          subst (λ i. HoldsDatabase i trees)
              (sym failed.image_is) holds,
        )))
        | inr (inr (inl (is, more))) ↦
            let told = fault_is ∙ ap open_fault_of_error is in
            elim (other_fault _) [
              | inl memory ↦ inl (told ∙ memory)
              | inr store ↦ inr (
                told ∙ store,
                inl (record {
                  files = failed.files;
                  image_is = failed.image_is;
                  failed = more;
                }),
              )
            ]
        | inr (inr (inr (is, full))) ↦ inr (fault_is ∙ ap open_fault_of_error is, inr (inr full))
      ]

  -- so its error isn't that of files that hold no database
  holds_one : (image : Image) (trees : Trees) → HoldsDatabase image trees → (error : Error)
      (left : Leftover D g) → FailsWith image error left → IsCleanLeft left
      → ¬ (error ≡ SqliteFailure NotADatabase)
  holds_one image trees holds error left failed clean is =
      no_database failed.files left (subst (FailsToOpenFiles failed.files left) is
      (failed.fails clean)) trees (subst (λ i. HoldsDatabase i trees) (sym failed.image_is) holds)

  pub path_cause : (image : Image) (db : Database) (trees : Trees) → HoldsDatabase image trees
      → (error : Error) (rest now : Option (Leftover D g)) (fault : OpenFault)
      → (rest ≡ None → ¬ (error ≡ SqliteFailure NotADatabase))
      → IfSome rest (FailsWith image error) → ForgetsNoFault rest now
      → IsUnlessNoDatabase error ((fault ≡ open_fault_of_error error) × (now ≡ rest))
      → IsFileOpenRefusal image fault now → HasPathCause image db fault now
  path_cause image db trees holds error None None fault apart failed forgets other right = right
  path_cause image db trees holds error None (Some now) fault apart failed forgets other right =
      absurd (let it = (other (apart refl)).1 in cc)
  path_cause image db trees holds error (Some left) None fault apart failed forgets other
      right = right
  path_cause image db trees holds error (Some left) (Some now) fault apart failed forgets
      other right = λ clean.
      let before = forgets clean in
      let it = other (holds_one image trees holds error left failed before) in
      let cause = left_cause image db trees holds error left fault failed before it.0 in
      subst (HasPathCause image db fault) (sym it.1) (λ again. cause) clean

-- the file wasn't refused as empty
pub unless_empty : {A L : Type 0} (result : Result A (OpenFault × Option L))
    (Fact : OpenFault × Option L → Type 0) → IfErr result Fact
    → IfErr result (λ refused. IsUnlessEmpty refused (Fact refused))
unless_empty (Ok value) Fact h = tt
unless_empty (Err refused) Fact h = inr h
