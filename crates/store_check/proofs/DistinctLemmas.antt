-- Lists of distinct keys, by the size of the set of them.
use Rattle.std.proofs.Common.{◌≡◌, ◌↔◌, ℕ, Bool, true, false, BTreeSet, Ordering, List, [], ◌∷◌}
use Rattle.std.proofs.Common.{map, length, IsTrue, nat_eq, ℤ, int_eq, ◌&&◌, bytes_eq, subst, sym}
use Rattle.std.proofs.Common.{ap, ap₂, ◌∙◌, eq-eqb, arith}
use Rattle.std.specs.BTreeSet.{IsFromIterResult, btree_set_len}
use Rattle.std.specs.Cmp.{IsTotalOrder}
use Rattle.std.specs.List.{AllByRecursion, IsDistinct}
use Rattle.std.specs.Ordering.{eq_by_cmp, int_cmp, is_eq, ordering_then}
use Rattle.std.specs.Ordering.{nat_cmp}
use Rattle.std.specs.Cmp.Lexicographic.{slice_cmp}
use Rattle.std.proofs.lemmas.Map.Text.{is_eq-slice_cmp}
use Rattle.store_rows.proofs.KeyedEntries.{text_turned}
use Rattle.sqlite_trees.proofs.ListLemmas.{all_both, ascending-map, ascending_from_map}
use Rattle.sqlite_trees.proofs.ListLemmas.{ascending_weaker}
use Rattle.store_rows.proofs.RowLemmas.{int_turned}
use Rattle.std.proofs.lemmas.Int.{ints}
use Rattle.std.proofs.Common.{Less, Equal, Greater}
use Rattle.std.proofs.lemmas.Cmp.{eq_by_cmp_equiv}
use Rattle.std.proofs.lemmas.Map.Made.{IsDistinct-from_count, distinct_count-from_IsDistinct}
use Rattle.std.proofs.lemmas.Map.Views.{btree_set_len-from_list}
use Rattle.std.proofs.lemmas.Bool.{and_parts}
use Rattle.sqlite_trees.specs.Tree.{IsAscending}

eq_of : (a b : ℕ) → nat_eq a b ≡ true → a ≡ b
eq_of a b h = grind arith

pub distinct_by_count : {K : Type 0} {R : K → K → Ordering} → IsTotalOrder R
    → (xs : List K) (n : BTreeSet K) (size count : ℕ) → IsFromIterResult R xs n
    → size ≡ btree_set_len n → count ≡ length xs
    → IsTrue (nat_eq size count) ↔ IsDistinct (eq_by_cmp R) xs
distinct_by_count {R = R} o xs n size count made len all =
    let size_is = len ∙ btree_set_len-from_list o xs n made in (
      λ t. IsDistinct-from_count (eq_by_cmp_equiv o) xs (sym size_is ∙ eq_of size count t ∙ all),
      λ d. eq-eqb size count (size_is ∙ distinct_count-from_IsDistinct (eq_by_cmp_equiv o) xs d
          ∙ sym all),
    )

-- the keys are distinct exactly if no two items have equal keys
module _ {X K : Type 0} (e : K → K → Bool) (key : X → K) (R : X → X → Bool) (is : (a b : X)
    → R a b ≡ e (key a) (key b)) where
  from_keys : (x : X) (xs : List X) → AllByRecursion (λ k. e (key x) k ≡ false) (map key xs)
      → AllByRecursion (λ y. R x y ≡ false) xs
  from_keys x [] h = tt
  from_keys x (y ∷ ys) h = (is x y ∙ h.0, from_keys x ys h.1)

  to_keys : (x : X) (xs : List X) → AllByRecursion (λ y. R x y ≡ false) xs
      → AllByRecursion (λ k. e (key x) k ≡ false) (map key xs)
  to_keys x [] h = tt
  to_keys x (y ∷ ys) h = (sym (is x y) ∙ h.0, to_keys x ys h.1)

  pub apart_from_keys : (xs : List X) → IsDistinct e (map key xs)
      → IsAscending (λ a b. R a b ≡ false) xs
  unfolding IsDistinct
  apart_from_keys [] h = tt
  apart_from_keys (x ∷ xs) h = (from_keys x xs h.0, apart_from_keys xs h.1)

  pub keys_from_apart : (xs : List X) → IsAscending (λ a b. R a b ≡ false) xs
      → IsDistinct e (map key xs)
  unfolding IsDistinct
  keys_from_apart [] h = tt
  keys_from_apart (x ∷ xs) h = (to_keys x xs h.0, keys_from_apart xs h.1)

-- ---- keys of rows

module _ {K : Type 0} (e : K → K → Bool) where
  pub ascending_from_distinct : (ks : List K) → IsDistinct e ks
      → IsAscending (λ a b. e a b ≡ false) ks
  unfolding IsDistinct
  ascending_from_distinct [] h = tt
  ascending_from_distinct (k ∷ ks) h = (h.0, ascending_from_distinct ks h.1)

  pub distinct_from_ascending : (ks : List K) → IsAscending (λ a b. e a b ≡ false) ks
      → IsDistinct e ks
  unfolding IsDistinct
  distinct_from_ascending [] h = tt
  distinct_from_ascending (k ∷ ks) h = (h.0, distinct_from_ascending ks h.1)

-- keys of rows, read by `v`, are distinct exactly if no two rows have the same
pub own_keys : {X K J : Type 0} (e : K → K → Bool) (f : J → J → Bool) (v : K → J) (key : X
    → J) (R : X → X → Bool) → ((x y : K) → e x y ≡ f (v x) (v y))
    → ((a b : X) → R a b ≡ f (key a) (key b))
    → (ks : List K) (xs : List X) → map v ks ≡ map key xs → (returned : Bool)
    → (IsTrue returned ↔ IsDistinct e ks) → IsTrue returned ↔ IsAscending (λ a b. R a b ≡ false)
    xs
own_keys e f v key R alike is ks xs same returned h = (
  λ t. apart_from_keys f key R is xs (subst (IsDistinct f) same (keys_from_apart f v e alike ks
      (ascending_from_distinct e ks (h.0 t)))),
  λ a. h.1 (distinct_from_ascending e ks (apart_from_keys f v e alike ks
      (subst (IsDistinct f) (sym same) (keys_from_apart f key R is xs a)))),
)

-- ---- how keys are compared

pub ints_alike : (a b : ℤ) → eq_by_cmp int_cmp a b ≡ int_eq a b
ints_alike a b = grind (arith, ints)

pub both_alike : (o p : Ordering) (s t : Bool) → is_eq o ≡ s → is_eq p ≡ t
    → is_eq (ordering_then o p) ≡ (s && t)
both_alike Less p s t h k = ap (λ b. b && t) h
both_alike Equal p s t h k = k ∙ ap (λ b. b && t) h
both_alike Greater p s t h k = ap (λ b. b && t) h

pub texts_alike : (a b : List ℕ) → is_eq (slice_cmp nat_cmp a b) ≡ bytes_eq b a
texts_alike a b = is_eq-slice_cmp a b ∙ text_turned a b

pub turned_ints : (a b : ℤ) → eq_by_cmp int_cmp a b ≡ int_eq b a
turned_ints a b = ints_alike a b ∙ int_turned a b

-- ---- two keys of each row

ascending_both : {X : Type 0} (P Q : X → X → Type 0) (xs : List X) → IsAscending P xs
    → IsAscending Q xs → IsAscending (λ a b. P a b × Q a b) xs
ascending_both P Q [] h k = tt
ascending_both P Q (x ∷ xs) h k = (
  all_both (P x) (Q x) (λ y. P x y × Q x y) (λ y p q. (p, q)) xs
      h.0 k.0,
  ascending_both P Q xs h.1 k.1,
)

pub mapped_keys : {X Y : Type 0} (P : Y → Y → Type 0) (f : X → Y) (xs : List X) → (returned : Bool)
    → (IsTrue returned ↔ IsAscending (λ a b. P (f a) (f b)) xs)
    → IsTrue returned ↔ IsAscending P (map f xs)
mapped_keys P f xs returned h = (
  λ t. ascending-map P f xs (h.0 t),
  λ a. h.1 (ascending_from_map P f xs a),
)

pub two_keys : {X Y : Type 0} (P Q : Y → Y → Type 0) (f : X → Y) (xs : List X) → (s t : Bool)
    → (IsTrue s ↔ IsAscending (λ a b. P (f a) (f b)) xs)
    → (IsTrue t ↔ IsAscending (λ a b. Q (f a) (f b)) xs)
    → IsTrue (s && t) ↔ IsAscending (λ a b. P a b × Q a b) (map f xs)
two_keys P Q f xs s t h k = (
  λ both. let parts = and_parts s t both in
      ascending-map (λ a b. P a b × Q a b) f xs (ascending_both (λ a b. P (f a) (f b))
      (λ a b. Q (f a) (f b)) xs (h.0 parts.0) (k.0 parts.1)),
  λ a. let back = ascending_from_map (λ a b. P a b × Q a b) f xs a in
      ap₂ (λ x y. x && y) (h.1 (ascending_weaker (λ a b. P (f a) (f b) × Q (f a) (f b))
      (λ a b. P (f a) (f b)) (λ a b r. r.0) xs back))
      (k.1 (ascending_weaker (λ a b. P (f a) (f b) × Q (f a) (f b)) (λ a b. Q (f a) (f b))
      (λ a b r. r.1) xs back)),
)
