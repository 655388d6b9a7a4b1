-- The oldest remembered removal, and how a further removal changes it.
use Rattle.std.proofs.Common.{◌≡◌, ℕ, ℤ, pos, ◌+◌, ◌≤◌, min, Bool, true, false, not, ◌&&◌, cond}
use Rattle.std.proofs.Common.{List, [], ◌∷◌, map, filter, find, length, take, Option, Some, None}
use Rattle.std.proofs.Common.{bytes_eq, int_eq, int_lt, is_some, nat_le, IsPermutation, refl, sym}
use Rattle.std.proofs.Common.{ap, ap₂, subst, ◌∙◌, arith}
use Rattle.std.specs.List.{AllByRecursion}
use Rattle.std.specs.Option.{option_map, option_map_or, option_and_then}
use Rattle.std.specs.FinMap as finite
use Rattle.std.proofs.lemmas.List.{length-map}
use Rattle.std.proofs.lemmas.List.Sorted.{IsPermutation-refl, IsPermutation-cons}
use Rattle.std.proofs.lemmas.List.Sorted.{IsPermutation-middle, IsPermutation-trans}
use Rattle.std.proofs.lemmas.List.Sorted.{IsPermutation-map, IsPermutation-sym, length_permutation}
use Rattle.std.proofs.lemmas.Bool.{and_parts}
use Rattle.sqlite_trees.proofs.ListLemmas.{map-map}
use Rattle.book_model.specs.declared.answers.Stored.{Stored}
use Rattle.book_model.specs.declared.row.Row.{Row as Kept}
use Rattle.book_model.specs.Books.{stored_in_row}
use Rattle.book_model.specs.BookChanges.{least}
use Rattle.book_model.specs.BookQueries.{is_tombstone_after as row_removed_after}
use Rattle.store_tables.specs.Members.{MemberRow, number_shown, is_in_book, has_uid}
use Rattle.store_tables.specs.Members.{is_removed_above, upsert_member}
use Rattle.store_rows.specs.Values.{natural}
use Rattle.store_rows.specs.TableBooks.{model_row, member_entry, members_in, keep_of_book}
use Rattle.store_rows.specs.ForgetLaws.{FirstIsFirstRemoval, NoneIsNoRemoval, RemovalsAreRemembered}
use Rattle.store_rows.proofs.KeyedEntries.{Once}
use Rattle.store_rows.proofs.RowLemmas.{once_members, uid_of_row, get-members_in}
use Rattle.store_rows.proofs.LookupLemmas.{natural_of}
use Rattle.store_rows.proofs.MemberLemmas.{members_put}
use Rattle.store_rows.proofs.RemovedLemmas.{passing_entries, removed_is}
use Rattle.store_rows.proofs.OrderLemmas.{entries_rise, first_least, least_above, least_permuted}

abbrev changed_in : List ℕ × Kept → ℕ
changed_in member = member.1.changed

abbrev changed_of : MemberRow → ℕ
changed_of m = natural m.changed

-- the numbers of a book's removals: the entries and the table have the same
removals : (book : ℤ) (ms : List MemberRow) (h : ℕ) → Once (is_in_book book) uid_of_row model_row ms
    → IsPermutation (map changed_of (filter (is_removed_above book (pos h)) ms))
    (map changed_in (filter (λ (e : List ℕ × Kept). row_removed_after h e.1)
    (finite.entries (members_in book ms))))
removals book ms h once =
    subst (λ l. IsPermutation l (map changed_in
    (filter (λ (e : List ℕ × Kept). row_removed_after h e.1)
    (finite.entries (members_in book ms))))) (map-map changed_in member_entry
    (filter (is_removed_above book (pos h)) ms))
    (IsPermutation-map changed_in _ _ (passing_entries book ms (row_removed_after h)
    (is_removed_above book (pos h)) once (removed_is book h)))

same_head : {X : Type 0} (x y : X) (xs ys : List X) → x ∷ xs ≡ y ∷ ys → x ≡ y
same_head x y xs ys e = ap (λ l. first x l) e
  where
    first : {X : Type 0} → X → List X → X
    first d [] = d
    first d (z ∷ zs) = z

pub first_is_first : FirstIsFirstRemoval
first_is_first rows name f row n sound h shows =
    let ms = filter (is_removed_above (pos f.id) (pos f.horizon)) rows.members in
    sym (least_permuted _ _ (removals (pos f.id) rows.members f.horizon
    (once_members (pos f.id) rows.members sound.members)))
    ∙ least_permuted _ _ (IsPermutation-map changed_of _ _ h.same)
    ∙ ordered h.ordered h.rises h.first
  where
    ordered : (ys : List MemberRow) → Rattle.std.specs.List.Sorted.IsSorted
        Rattle.store_tables.specs.Members.by_changed ys → row ∷ [] ≡ take 1 (map number_shown ys)
        → least (map changed_of ys) ≡ Some n
    ordered [] rises first = absurd cc
    ordered (y ∷ ys) rises first =
        let number : natural y.changed ≡ n =
        natural_of y.changed n (ap (λ r. Rattle.sqlite.specs.Order.column r 0)
        (sym (same_head row (number_shown y) [] [] first)) ∙ shows) in
        let low = first_least changed_in (member_entry y) (map member_entry ys)
        (entries_rise (y ∷ ys) rises) in
        ap Some (ap (λ l. option_map_or (min (changed_of y)) (least l) (changed_of y))
        (sym (map-map changed_in member_entry ys))
        ∙ least_above changed_in (changed_of y) (map member_entry ys) low ∙ number)

pub none_is_none : NoneIsNoRemoval
none_is_none rows name f sound h =
    sym (least_permuted _ _ (removals (pos f.id) rows.members f.horizon
    (once_members (pos f.id) rows.members sound.members)))
    ∙ ap (λ l. least (map changed_of l)) (h refl)

-- ---- a further removal

module _ (book : ℤ) (uid : List ℕ) (number : ℕ) where
  abbrev removed : List MemberRow → List MemberRow
  removed ms = upsert_member (pos 0) book uid (pos (number + 1)) None ms

  no_one : (f : MemberRow) → ◌≡◌ {A = Option MemberRow} None (Some f) → ⊥
  no_one f e = cc

  same_found : (f m : MemberRow) → Some m ≡ Some f → m ≡ f
  same_found f m e = cc

  all_kept : (P : ℤ → List ℕ → Type 0) (ms : List MemberRow) (f : MemberRow)
      → find (has_uid book uid) ms ≡ Some f → AllByRecursion (λ m. P m.book m.uid) ms
      → AllByRecursion (λ m. P m.book m.uid) (removed ms)
  all_kept P [] f found h = absurd (no_one f found)
  all_kept P (m ∷ ms) f found h = step (has_uid book uid m) refl found (all_kept P ms f)
    where
      step : (t : Bool) → has_uid book uid m ≡ t → find (has_uid book uid) (m ∷ ms) ≡ Some f
          → (find (has_uid book uid) ms ≡ Some f → AllByRecursion (λ m. P m.book m.uid) ms
          → AllByRecursion (λ m. P m.book m.uid) (removed ms))
          → AllByRecursion (λ m. P m.book m.uid) (removed (m ∷ ms))
      step true e found more = rw e (h.0, h.1)
      step false e found more = rw e (h.0, more (rw e at found) h.1)

  once_removed : (ms : List MemberRow) (f : MemberRow) → find (has_uid book uid) ms ≡ Some f
      → Once (is_in_book book) uid_of_row model_row ms
      → Once (is_in_book book) uid_of_row model_row (removed ms)
  once_removed [] f found h = absurd (no_one f found)
  once_removed (m ∷ ms) f found h = step (has_uid book uid m) refl found (once_removed ms f)
    where
      step : (t : Bool) → has_uid book uid m ≡ t → find (has_uid book uid) (m ∷ ms) ≡ Some f
          → (find (has_uid book uid) ms ≡ Some f → Once (is_in_book book) uid_of_row model_row ms
          → Once (is_in_book book) uid_of_row model_row (removed ms))
          → Once (is_in_book book) uid_of_row model_row (removed (m ∷ ms))
      step true e found more = rw e (h.0, h.1)
      step false e found more = rw e (
        all_kept (λ b u. is_in_book book m ≡ true
            → (int_eq b book && bytes_eq u m.uid) ≡ false) ms f (rw e at found) h.0,
        more (rw e at found) h.1,
      )

  one_more : (h : ℕ) → int_lt (pos h) (pos (number + 1)) ≡ true
      → (ms : List MemberRow) (f : MemberRow) → find (has_uid book uid) ms ≡ Some f
      → is_some f.card ≡ true
      → IsPermutation ((number + 1) ∷ map changed_of (filter (is_removed_above book (pos h)) ms))
      (map changed_of (filter (is_removed_above book (pos h)) (removed ms)))
  one_more h later [] f found live = absurd (no_one f found)
  one_more h later (m ∷ ms) f found live =
      step (has_uid book uid m) (is_removed_above book (pos h) m) refl refl found
      (one_more h later ms f)
    where
      step : (t r : Bool) → has_uid book uid m ≡ t → is_removed_above book (pos h) m ≡ r
          → find (has_uid book uid) (m ∷ ms) ≡ Some f
          → (find (has_uid book uid) ms ≡ Some f → is_some f.card ≡ true
          → IsPermutation ((number + 1) ∷ map changed_of (filter (is_removed_above book (pos h))
          ms)) (map changed_of (filter (is_removed_above book (pos h)) (removed ms))))
          → IsPermutation ((number + 1) ∷ map changed_of (filter (is_removed_above book (pos h))
          (m ∷ ms))) (map changed_of (filter (is_removed_above book (pos h))
          (removed (m ∷ ms))))
      step true r e k found more =
          let same : m ≡ f = same_found f m (rw e at found) in
          let mine = (and_parts (int_eq m.book book) (bytes_eq m.uid uid) e).0 in
          let here : is_removed_above book (pos h) m ≡ false =
          ap₂ (λ a b. a && (not b && int_lt (pos h) m.changed)) mine
          (ap (λ (x : MemberRow). is_some x.card) same ∙ live) in
          let then : (int_eq m.book book && int_lt (pos h) (pos (number + 1))) ≡ true =
          ap₂ (λ a b. a && b) mine later in
          rw (e, here, then) (IsPermutation-refl _)
      step false true e k found more =
          rw (e, k) (IsPermutation-trans _ _ _ (IsPermutation-middle ((number + 1) ∷ [])
          (changed_of m) _) (IsPermutation-cons (changed_of m) _ _ (more (rw e at found) live)))
      step false false e k found more = rw (e, k) (more (rw e at found) live)

found_live : (o : Option MemberRow) (live : Stored)
    → option_and_then stored_in_row (option_map model_row o) ≡ Some live → (f : MemberRow)
    × (o ≡ Some f) × (is_some f.card ≡ true)
found_live None live h = absurd cc
found_live (Some f) live h = (f, refl, with_card f.card refl h)
  where
    with_card : (c : Option (List ℕ)) → f.card ≡ c → stored_in_row (model_row f) ≡ Some live
        → is_some f.card ≡ true
    with_card None e h = absurd (let k = rw e at h in cc)
    with_card (Some t) e h = ap is_some e

later_is : (h n : ℕ) → h ≤ n → int_lt (pos h) (pos (n + 1)) ≡ true
later_is h n low = grind (arith, low)

abbrev Members : Type 0
Members = finite.FinMap Rattle.base_types.specs.TextMaps.text_cmp Kept

-- the entries of removed members
abbrev gone : ℕ → Members → List (List ℕ × Kept)
gone h members = filter (λ (e : List ℕ × Kept). row_removed_after h e.1) (finite.entries members)

pub removals_remembered : RemovalsAreRemembered
removals_remembered rows name f uid live why sound is low =
    let book = pos f.id in
    let members = members_in book rows.members in
    let it = found_live (find (has_uid book uid) rows.members) live
    (ap (option_and_then stored_in_row) (sym (get-members_in book rows.members uid)) ∙ is) in
    let once = once_members book rows.members sound.members in
    let ms = removed book uid f.number rows.members in
    let numbers = one_more book uid f.number f.horizon (later_is f.horizon f.number low)
    rows.members it.0 it.1 it.2 in
    let before = removals book rows.members f.horizon once in
    let after = removals book ms f.horizon (once_removed book uid f.number rows.members it.0 it.1
    once) in
    let new : Members = finite.insert members uid (record {
      changed = f.number + 1;
      card = None;
    }) in
    let next : members_in book ms ≡ new =
    members_put (pos 0) book uid (pos (f.number + 1)) None rows.members in
    let all : IsPermutation ((f.number + 1) ∷ map changed_in (gone f.horizon members))
    (map changed_in (gone f.horizon new)) =
    subst (λ m. IsPermutation ((f.number + 1) ∷ map changed_in (gone f.horizon members))
    (map changed_in (gone f.horizon m))) next
    (IsPermutation-trans _ _ _ (IsPermutation-cons (f.number + 1) _ _
    (IsPermutation-sym _ _ before)) (IsPermutation-trans _ _ _ numbers after)) in
    let count = counted f.horizon members new (f.number + 1) all in
    let first = sym (least_permuted _ _ all) in
    record {
      count = count;
      first = first;
      drop = ap₂ (λ n o. cond (nat_le n (keep_of_book book rows.keeps)) None o) count first;
    }
  where
    counted : (h : ℕ) (old new : Members) (n : ℕ) → IsPermutation (n ∷ map changed_in (gone h old))
        (map changed_in (gone h new)) → length (gone h new) ≡ length (gone h old) + 1
    counted h old new n all =
        let same = length_permutation _ _ all in
        let one = length-map (gone h old) changed_in in
        let two = length-map (gone h new) changed_in in
        omega (arith, same, one, two)
