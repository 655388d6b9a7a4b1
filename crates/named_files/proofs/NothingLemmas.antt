-- Files that are empty, or half made, are opened as a database without rows and tables.
use Rattle.std.proofs.Common.{◌≡◌, ℕ, ◌-◌, ◌*◌, ◌<◌, ◌≤◌, List, [], length, take, slice_index}
use Rattle.std.proofs.Common.{Option, Some, unwrap_or, inl, inr, refl, sym, ap, ◌∙◌, arith}
use Rattle.std.proofs.Common.{get_or-take, length-take}
use Rattle.std.proofs.Math.Logic.{∥∥₁_elim}
use Rattle.sqlite.specs.Files.{AreFoundIn, IsEmpty, IsNothing}
use Rattle.sqlite.specs.Recovery.{Image}
use Rattle.sqlite.specs.Tree.{Trees}
use Rattle.sqlite_pool.specs.File.{IsSoundFile, header_in}
use Rattle.sqlite_pool.specs.Opening.{IsBlankFile}
use Rattle.sqlite_pool.specs.Stored.{Adopts, stored_size}
use Rattle.sqlite_pool.specs.StoredLaws.{trimmed_some}
use Rattle.sqlite_pool.proofs.ProbeLemmas.{first_byte}
use Rattle.sqlite_wal.specs.Format.{part}
use Rattle.sqlite_wal.specs.Recovery.{Pages, pages_after}
use Rattle.sqlite_wal.proofs.AppendLemmas.{page_from_pages, some_value}
use Rattle.sqlite_wal.proofs.PartLemmas.{part_within, slice_index-part}
use Rattle.sqlite_wal.proofs.RecoveryLemmas.{replays_once}

module _ (size : ℕ) (image : Image) (pages : Pages) (adopted : Adopts size image pages) (sound :
    IsSoundFile size pages) where
  first_page_is : (page : List ℕ) × (adopted.stored 1 ≡ Some page)
  first_page_is = some_value (adopted.stored 1) adopted.whole.first

  abbrev page : List ℕ
  page = first_page_is.0

  head : header_in pages ≡ take 100 (take size page)
  head =
      let used : pages 1 ≡ Some (take size page) = ap (λ (p : Pages). p 1) (sym adopted.shows)
      ∙ trimmed_some size adopted.stored 1 page first_page_is.1 in
      ap (λ (o : Option (List ℕ)). take 100 (unwrap_or o [])) used

  -- a page has the 16 octets by which a database begins
  long : 16 ≤ size
  long =
      let begun : length (take 16 (take 100 (take size page))) ≡ 16 =
      ap (λ (b : List ℕ). length (take 16 b)) (sym head) ∙ ap length sound.header.0.magic in
      omega (
        arith,
        begun,
        length-take 16 (take 100 (take size page)),
        length-take 100 (take size page),
        length-take size page,
      )

  -- with no frame to replay, the first of them is that of the database file
  begins : adopted.found.frames ≡ 0 → (stored_size size ≤ length image.db)
      × (slice_index image.db 0 ≡ 83)
  begins none =
      let whole = stored_size size in
      let raw = adopted.found in
      let few = long in
      let alone : pages_after whole image.log image.db 0 1 ≡ Some page =
      ap (λ (p : Pages). p 1) (ap (pages_after whole image.log image.db) (sym none) ∙ raw.gives)
      ∙ first_page_is.1 in
      let start : (1 - 1) * whole ≡ 0 = omega arith in
      let front : part image.db 0 whole ≡ page =
      ap (λ (at : ℕ). part image.db at whole) (sym start)
      ∙ (page_from_pages whole image.log image.db 0 1 page alone).0 in
      let reach = part_within image.db 0 whole (omega arith) (ap length front
      ∙ adopted.whole.sized 1 page first_page_is.1) in
      let fits : stored_size size ≤ length image.db = omega arith in
      let first : slice_index (take 16 (header_in pages)) 0 ≡ 83 =
      ap (λ (b : List ℕ). slice_index b 0) sound.header.0.magic in
      let octet : slice_index (header_in pages) 0 ≡ slice_index image.db 0 =
      ap (λ (b : List ℕ). slice_index b 0) head
      ∙ get_or-take 100 (take size page) 0 0 (omega arith)
      ∙ get_or-take size page 0 0 (omega arith)
      ∙ ap (λ (b : List ℕ). slice_index b 0) (sym front)
      ∙ slice_index-part image.db 0 whole 0 (omega arith) in (
        fits,
        sym octet ∙ sym (get_or-take 16 (header_in pages) 0 0 (omega arith)) ∙ first,
      )

  -- so they aren't empty, and an opening hasn't left them half made
  not_blank : (other : ℕ) → 0 < other → ¬ IsBlankFile other image
  not_blank other some (inl none) = omega (arith, adopted.found.present)
  not_blank other some (inr blank) =
      let raw = adopted.found in
      let few = long in
      let none : raw.frames ≡ 0 = elim blank.0 [
        | inl ignored ↦ replays_once (stored_size size) image.log raw.frames 0 raw.replays
            (inl (ignored.0, refl))
        | inr taken ↦ elim raw.replays [
          | inl ignored ↦ ignored.1
          | inr ours ↦ replays_once (stored_size size) image.log raw.frames 0 raw.replays
              (rw (sym ours.0.head.size ∙ taken.0.head.size) blank.0)
        ]
      ] in
      let (fits, magic) = begins none in
      elim blank.1.0 [
        | inl short ↦ omega arith
        | inr more ↦ elim more [
          | inl zeros ↦ omega (arith, zeros.1)
          | inr rest ↦ rest.1 (magic ∙ sym (first_byte other some))
        ]
      ]

-- what an opening finds in such files
pub nothing_found : (image : Image) (db : Trees) → IsNothing image → AreFoundIn image db → IsEmpty db
nothing_found image db nothing (inr none) = none.1
nothing_found image db nothing (inl found) =
    let never : ⊥ = ∥∥₁_elim found.4 (λ (x y : ⊥). absurd x) (λ ours.
    let sound = ours.file.sound in elim nothing [
      | inl plain ↦ not_blank found.0 image found.1 found.3 sound _ (omega arith) plain
      | inr summed ↦ not_blank found.0 image found.1 found.3 sound _ (omega arith) summed
    ]) in
    absurd never
