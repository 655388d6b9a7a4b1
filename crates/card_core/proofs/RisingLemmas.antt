-- Two sorted lists of texts and have the same texts are equal.
use Rattle.std.proofs.Common.{◌≡◌, ◌≢◌, ◌⊎◌, ℕ, List, [], ◌∷◌, get_or, refl, sym, ap, subst, ◌∙◌}
use Rattle.std.proofs.Common.{⊎_elim, inl, inr, arith}
use Rattle.std.specs.Cmp.{tied_itself}
use Rattle.std.specs.Cmp.Lexicographic.{nat_list_cmp_total}
use Rattle.std.specs.List.{Contains}
use Rattle.std.specs.List.Sorted.{IsStrictlySortedBy}
use Rattle.std.specs.Ordering.{ordering_reverse}
use Rattle.std.specs.declared.cmp.Ordering.TheVariants.{Less, Equal, Greater}
use Rattle.std.proofs.lemmas.List.Elements.{All-contains, All-from_recursion, Contains-append_right}
use Rattle.std.proofs.lemmas.List.Elements.{Contains-append_cases}
use Rattle.std.proofs.lemmas.Map.Keys.{sorted_head, sorted_tail}
use Rattle.std.proofs.lemmas.Map.Lookups.{exact_bytes}
use Rattle.base_types.specs.TextMaps.{text_cmp}

pub none_in_empty : (text : List ℕ) → Contains [] text → ⊥
none_in_empty text c = omega (arith, c.1)

first_is_in : (text : List ℕ) (texts : List (List ℕ)) → Contains (text ∷ texts) text
first_is_in text texts = (0, omega arith, refl)

later_is_in : (first : List ℕ) (texts : List (List ℕ)) (text : List ℕ) → Contains texts text
    → Contains (first ∷ texts) text
later_is_in first texts text c = Contains-append_right (first ∷ []) texts text c

either_in : (first : List ℕ) (texts : List (List ℕ)) (text : List ℕ) → Contains (first ∷ texts) text
    → (first ≡ text) ⊎ Contains texts text
either_in first texts text c = ⊎_elim (λ one. inl (is_one one)) inr
    (Contains-append_cases (first ∷ []) texts text c)
  where
    is_one : Contains (first ∷ []) text → first ≡ text
    is_one one = let front : one.0 ≡ 0 = omega (arith, one.1) in
        sym (ap (λ k. get_or (first ∷ []) k text) front) ∙ one.2

itself : (text : List ℕ) → text_cmp text text ≡ Equal
itself text = tied_itself nat_list_cmp_total text

first_is_below : (first : List ℕ) (texts : List (List ℕ))
    → IsStrictlySortedBy text_cmp (first ∷ texts) → (text : List ℕ) → Contains texts text
    → text_cmp first text ≡ Less
first_is_below first texts rise text c =
    All-contains (λ t. text_cmp first t ≡ Less) texts text
    (All-from_recursion (λ t. text_cmp first t ≡ Less) texts (sorted_head text_cmp first texts
    rise)) c

first_is_least : (first : List ℕ) (texts : List (List ℕ))
    → IsStrictlySortedBy text_cmp (first ∷ texts) → (text : List ℕ) → Contains (first ∷ texts) text
    → text_cmp first text ≢ Greater
first_is_least first texts rise text c greater = ⊎_elim
    (λ same. let e : text_cmp first text ≡ Equal = subst (λ t. text_cmp first t ≡ Equal) same
    (itself first) in cc)
    (λ later. let e = first_is_below first texts rise text later in cc)
    (either_in first texts text c)

-- texts of which neither is greater are the same
same_since : (a b : List ℕ) → text_cmp a b ≢ Greater → text_cmp b a ≢ Greater → a ≡ b
same_since a b not_above not_below = elim (text_cmp a b) as (λ order. text_cmp a b ≡ order
    → a ≡ b) [
      | Less ↦ λ e. absurd (not_below (nat_list_cmp_total.antisymm b a ∙ ap ordering_reverse e))
      | Equal ↦ λ e. exact_bytes a b e
      | Greater ↦ λ e. absurd (not_above e)
    ] refl

abbrev HaveSame : List (List ℕ) → List (List ℕ) → Type 0
HaveSame a b = (text : List ℕ) → Contains a text → Contains b text

-- the texts after the first of one list are after the first of the other
rest_has : (first : List ℕ) (a b : List (List ℕ)) → IsStrictlySortedBy text_cmp (first ∷ a)
    → HaveSame (first ∷ a) (first ∷ b) → HaveSame a b
rest_has first a b rise same text c = ⊎_elim
    (λ e. let below : text_cmp first text ≡ Less = first_is_below first a rise text c in
    let equal : text_cmp first text ≡ Equal =
    subst (λ t. text_cmp first t ≡ Equal) e (itself first) in absurd cc)
    (λ later. later)
    (either_in first b text (same text (later_is_in first a text c)))

pub same_rising : (a b : List (List ℕ)) → IsStrictlySortedBy text_cmp a
    → IsStrictlySortedBy text_cmp b → HaveSame a b → HaveSame b a → a ≡ b
same_rising [] [] rise_a rise_b there back = refl
same_rising [] (y ∷ ys) rise_a rise_b there back =
    absurd (none_in_empty y (back y (first_is_in y ys)))
same_rising (x ∷ xs) [] rise_a rise_b there back =
    absurd (none_in_empty x (there x (first_is_in x xs)))
same_rising (x ∷ xs) (y ∷ ys) rise_a rise_b there back =
    let firsts : x ≡ y = same_since x y (first_is_least x xs rise_a y (back y (first_is_in y ys)))
    (first_is_least y ys rise_b x (there x (first_is_in x xs))) in
    let rise : IsStrictlySortedBy text_cmp (x ∷ ys) =
    subst (λ t. IsStrictlySortedBy text_cmp (t ∷ ys)) (sym firsts) rise_b in
    let to : HaveSame (x ∷ xs) (x ∷ ys) =
    subst (λ t. HaveSame (x ∷ xs) (t ∷ ys)) (sym firsts) there in
    let from : HaveSame (x ∷ ys) (x ∷ xs) =
    subst (λ t. HaveSame (t ∷ ys) (x ∷ xs)) (sym firsts) back in
    let rests = same_rising xs ys (sorted_tail text_cmp x xs rise_a)
    (sorted_tail text_cmp y ys rise_b) (rest_has x xs ys rise_a to)
    (rest_has x ys xs rise from) in
    λ i. firsts i ∷ rests i
