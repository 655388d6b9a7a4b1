-- Members sorted by number.
use Rattle.std.proofs.Common.{◌≡◌, ℕ, ℤ, pos, negsuc, suc, ◌+◌, ◌<◌, ◌≤◌, min, false, List, [], ◌∷◌}
use Rattle.std.proofs.Common.{map, length, Option, Some, None, is_lt, int_cmp, slice_index_or}
use Rattle.std.proofs.Common.{IsPermutation, refl, ap, ap₂, subst, ◌∙◌, arith}
use Rattle.std.specs.List.{AllByRecursion}
use Rattle.std.specs.List.Sorted.{IsSorted, IsSortedByKey, IsNonDecreasingBy}
use Rattle.std.specs.Option.{option_map_or}
use Rattle.std.specs.Ordering.{nat_cmp}
use Rattle.std.proofs.Math.Nat.{min_comm}
use Rattle.std.proofs.lemmas.Int.{ints}
use Rattle.std.proofs.lemmas.List.{get_or-map, length-map}
use Rattle.std.proofs.lemmas.List.Sorted.{IsNonDecreasingBy-from_sort}
use Rattle.sqlite_trees.proofs.ListLemmas.{along_permutation}
use Rattle.book_model.specs.BookChanges.{least}
use Rattle.book_model.specs.Pages.{MemberWithRow}
use Rattle.store_tables.specs.Members.{MemberRow, by_changed}
use Rattle.store_rows.specs.Values.{natural}
use Rattle.store_rows.specs.TableBooks.{member_entry}

falls : (a b : ℤ) → is_lt (int_cmp a b) ≡ false → is_lt (nat_cmp (natural a) (natural b)) ≡ false
falls (pos m) (pos n) h = grind (arith, ints)
falls (pos m) (negsuc n) h = grind (arith, ints)
falls (negsuc m) (pos n) h = grind (arith, ints)
falls (negsuc m) (negsuc n) h = refl

sorted : (y : MemberRow) (ys : List MemberRow) → IsSorted by_changed ys
    → IsSortedByKey (λ (m : MemberWithRow). m.1.changed) nat_cmp (map member_entry ys)
sorted y ys h k d low below =
    let within : k + 1 < length ys = subst (λ n. k + 1 < n) (length-map ys member_entry) below in
    ap₂ (λ (a b : MemberWithRow). is_lt (nat_cmp a.1.changed b.1.changed))
    (get_or-map member_entry ys (k + 1) y d within) (get_or-map member_entry ys k y d
    (omega (arith, within)))
    ∙ falls (slice_index_or ys (k + 1) y).changed (slice_index_or ys k y).changed (h k y low within)

-- members in the order of a query are entries sorted by number
pub entries_rise : (ys : List MemberRow) → IsSorted by_changed ys
    → IsNonDecreasingBy (λ (m : MemberWithRow). m.1.changed) (map member_entry ys)
entries_rise [] h = λ i j d le lt. absurd (omega (arith, lt))
entries_rise (y ∷ ys) h = IsNonDecreasingBy-from_sort (λ (m : MemberWithRow). m.1.changed)
    (map member_entry (y ∷ ys)) (sorted y (y ∷ ys) h)

-- the item at each place from here on
all_places : {X : Type 0} (n : X → ℕ) (k : ℕ) (xs : List X) → ((j : ℕ) (d : X) → j < length xs
    → k ≤ n (slice_index_or xs j d)) → AllByRecursion (λ x. k ≤ n x) xs
all_places n k [] h = tt
all_places n k (x ∷ xs) h = (
  h 0 x (omega arith),
  all_places n k xs (λ j d below. h (suc j) d (omega (arith, below))),
)

-- the first is the least
pub first_least : {X : Type 0} (n : X → ℕ) (x : X) (xs : List X) → IsNonDecreasingBy n (x ∷ xs)
    → AllByRecursion (λ y. n x ≤ n y) xs
first_least n x xs h = all_places n (n x) xs (λ j d below. h 0 (suc j) d (omega arith)
    (omega (arith, below)))

pub least_above : {X : Type 0} (n : X → ℕ) (k : ℕ) (xs : List X) → AllByRecursion (λ x. k ≤ n x) xs
    → option_map_or (min k) (least (map n xs)) k ≡ k
least_above n k [] h = refl
least_above n k (x ∷ xs) h = step (least (map n xs)) h.0 (least_above n k xs h.1)
  where
    step : (o : Option ℕ) → k ≤ n x → option_map_or (min k) o k ≡ k
        → min k (option_map_or (min (n x)) o (n x)) ≡ k
    step None low more = grind (arith, low)
    step (Some m) low more = grind (arith, low, more)

swapped : (a b c : ℕ) → min a (min b c) ≡ min b (min a c)
swapped a b c = grind arith

-- the least of some numbers does not depend on their order
pub least_permuted : (xs ys : List ℕ) → IsPermutation xs ys → least xs ≡ least ys
least_permuted = along_permutation (λ xs ys. least xs ≡ least ys) (λ xs. refl)
    (λ x xs ys h. ap (λ o. Some (option_map_or (min x) o x)) h)
    (λ x y xs. two x y (least xs)) (λ xs ys zs h k. h ∙ k)
  where
    two : (x y : ℕ) (o : Option ℕ) → Some (min x (option_map_or (min y) o y))
        ≡ Some (min y (option_map_or (min x) o x))
    two x y None = ap Some (min_comm x y)
    two x y (Some z) = ap Some (swapped x y z)
