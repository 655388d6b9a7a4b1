-- The entries of counts: what a write leaves, and against which books they are right.
use Rattle.std.proofs.Common.{◌≡◌, ℕ, false, ◌⊎◌, inl, inr, List, Option, Some, None, Result, OnOk}
use Rattle.std.proofs.Common.{OnErr, Ok, Err, sym, ap, ◌∙◌, subst, ⊎_elim}
use Rattle.std.specs.FinMap as finite
use Rattle.std.specs.FinMap.{get-empty, get-insert, get-remove, same_map}
use Rattle.std.proofs.lemmas.Bool.{cases_Bool, cond-true, cond-false}
use Rattle.std.proofs.lemmas.Map.Lookups.{exact_bytes}
use Rattle.std.proofs.lemmas.Option.{same_Some}
use Rattle.base_types.specs.TextMaps.{text_cmp}
use Rattle.book_model.specs.Books.{Book, Books, same_name}
use Rattle.book_model.specs.BookQueries.{tombstone_count}
use Rattle.base_types.proofs.TextLemmas.{text_total, same-equal, get-insert_here}
use Rattle.book_model.specs.CountLaws.{ClearedCountsAreRight, CountedBooksAreRight}
use Rattle.book_model.specs.CountLaws.{CountsOfOthersAreRight, FewerCountsAreRight}
use Rattle.book_model.specs.CountLaws.{SameCountsAreRight, SetCountsAreRight}
use Rattle.book_model.specs.Counts.{AreCountsOf, CountsByName, IsWritten}

-- ---- maps

abbrev none : Option ℕ
none = None

no_number : (n : ℕ) → none ≡ Some n → ⊥
no_number n e = cc

-- a value in a map after a write was written, or is under another key and was there before
pub written_or_there : {X : Type 0} (m : finite.FinMap text_cmp X) (k : List ℕ) (v : X) (q : List ℕ)
    (x : X) → finite.get (finite.insert m k v) q ≡ Some x → ((q ≡ k) × (v ≡ x))
    ⊎ ((same_name q k ≡ false) × (finite.get m q ≡ Some x))
written_or_there m k v q x e =
    let is = sym (get-insert text_total m k v q) ∙ e in
    ⊎_elim (λ here. inl (same-equal q k here, same_Some v x (sym (cond-true _ _ _ here) ∙ is)))
    (λ there. inr (there, sym (cond-false _ _ _ there) ∙ is)) (cases_Bool (same_name q k))

-- a value in a map after a removal is under another key and was there before
pub left_there : (m : CountsByName) (k q : List ℕ) (n : ℕ) → finite.get (finite.remove m k) q
    ≡ Some n → (same_name q k ≡ false) × (finite.get m q ≡ Some n)
left_there m k q n e =
    let is = sym (get-remove text_total m k q) ∙ e in
    ⊎_elim (λ here. absurd (no_number n (sym (cond-true _ _ _ here) ∙ is)))
    (λ there. (there, sym (cond-false _ _ _ there) ∙ is)) (cases_Bool (same_name q k))

-- the books under other names are as they were
pub still_there : (books : Books) (name : List ℕ) (new : Book) (q : List ℕ) (book : Book)
    → same_name q name ≡ false → finite.get books q ≡ Some book
    → finite.get (finite.insert books name new) q ≡ Some book
still_there books name new q book apart at = get-insert text_total books name new q
    ∙ cond-false _ _ _ apart ∙ at

-- where there is no entry, removing it changes nothing
pub absent_removed : (counts : CountsByName) (name : List ℕ) → finite.get counts name ≡ None
    → counts ≡ finite.remove counts name
absent_removed counts name absent = same_map text_total exact_bytes _ _ (λ q. ⊎_elim
    (λ here. ap (finite.get counts) (same-equal q name here) ∙ absent
    ∙ sym (get-remove text_total counts name q ∙ cond-true _ _ _ here))
    (λ there. sym (get-remove text_total counts name q ∙ cond-false _ _ _ there))
    (cases_Bool (same_name q name)))

-- an insertion that failed for lack of memory leaves no entry
pub inserted : {E : Type 0} (r : Result (Unit {0}) E) (old before after : CountsByName) (name :
    List ℕ) (n : ℕ) → before ≡ old → finite.get old name ≡ None
    → OnOk r (after ≡ finite.insert before name n) → OnErr r (after ≡ before)
    → IsWritten old after name n
inserted (Ok u) old before after name n same absent ok err =
    inl (ok ∙ ap (λ (m : CountsByName). finite.insert m name n) same)
inserted (Err e) old before after name n same absent ok err =
    inr (err ∙ same ∙ absent_removed old name absent)

-- ---- right numbers

abbrev no_counts : CountsByName
no_counts = finite.empty

pub none_right : (books : Books) → AreCountsOf no_counts books
none_right books name n e = absurd (no_number n (sym (get-empty text_cmp name) ∙ e))

-- the number of a book that is known by its name
pub right_number : (counts : CountsByName) (books : Books) (name : List ℕ) (book : Book) (n : ℕ)
    → AreCountsOf counts books → finite.get books name ≡ Some book → finite.get counts name ≡ Some n
    → tombstone_count book ≡ n
right_number counts books name book n right at e =
    let r = right name n e in
    ap tombstone_count (same_Some book r.0 (sym at ∙ r.1)) ∙ r.2

pub right_fewer : FewerCountsAreRight
right_fewer counts books name right q n e = right q n (left_there counts name q n e).1

pub right_cleared : ClearedCountsAreRight
right_cleared counts books name new right q n e =
    let there = left_there counts name q n e in
    let r = right q n there.1 in
    (r.0, still_there books name new q r.0 there.0 r.1, r.2)

pub right_set : SetCountsAreRight
right_set counts after books name new right written = by written
  where
    here : AreCountsOf (finite.insert counts name (tombstone_count new))
        (finite.insert books name new)
    here q m e = ⊎_elim
        (λ here. (
          new,
          ap (finite.get (finite.insert books name new)) here.0
              ∙ get-insert_here books name new,
          here.1,
        ))
        (λ there.
        let r = right q m there.1 in
        (r.0, still_there books name new q r.0 there.0 r.1, r.2))
        (written_or_there counts name (tombstone_count new) q m e)

    by : IsWritten counts after name (tombstone_count new)
        → AreCountsOf after (finite.insert books name new)
    by (inl set) = subst (λ (c : CountsByName). AreCountsOf c (finite.insert books name new))
        (sym set) here
    by (inr cleared) = subst (λ (c : CountsByName). AreCountsOf c (finite.insert books name new))
        (sym cleared) (right_cleared counts books name new right)

pub right_counted : CountedBooksAreRight
right_counted counts after books name book right at written = by written
  where
    here : AreCountsOf (finite.insert counts name (tombstone_count book)) books
    here q m e = ⊎_elim
        (λ here. (book, ap (finite.get books) here.0 ∙ at, here.1))
        (λ there. right q m there.1)
        (written_or_there counts name (tombstone_count book) q m e)

    by : IsWritten counts after name (tombstone_count book) → AreCountsOf after books
    by (inl set) = subst (λ (c : CountsByName). AreCountsOf c books) (sym set) here
    by (inr cleared) = subst (λ (c : CountsByName). AreCountsOf c books) (sym cleared)
        (right_fewer counts books name right)

pub right_same : SameCountsAreRight
right_same counts books name old new right at same q n e =
    let r = right q n e in
    ⊎_elim
    (λ here.
    let k : q ≡ name = same-equal q name here in
    let was : old ≡ r.0 = same_Some old r.0 (sym at ∙ sym (ap (finite.get books) k) ∙ r.1) in (
      new,
      ap (finite.get (finite.insert books name new)) k ∙ get-insert_here books name new,
      same
          ∙ ap tombstone_count was ∙ r.2,
    ))
    (λ there. (r.0, still_there books name new q r.0 there r.1, r.2))
    (cases_Bool (same_name q name))

pub right_created : CountsOfOthersAreRight
right_created counts books name new right absent q n e =
    let r = right q n e in
    ⊎_elim
    (λ here. absurd (no_book r.0 (sym absent ∙ sym (ap (finite.get books) (same-equal q name here))
    ∙ r.1)))
    (λ there. (r.0, still_there books name new q r.0 there r.1, r.2))
    (cases_Bool (same_name q name))
  where
    no_book : (book : Book) → ◌≡◌ {A = Option Book} None (Some book) → ⊥
    no_book book e = cc
