-- The expansion of a group: that a complete walk has found it, and that there is at most one.
use Rattle.std.proofs.Common.{◌≡◌, ◌↔◌, ℕ, List, sym, subst}
use Rattle.std.specs.List.{Contains}
use Rattle.std.specs.List.Sorted.{IsStrictlySortedBy}
use Rattle.base_types.specs.TextMaps.{text_cmp}
use Rattle.card_core.specs.declared.expansion.Expansion.{Expansion}
use Rattle.card_core.specs.declared.walk.Walk.{Walk}
use Rattle.card_core.specs.Groups.{Cards, IsPerson, IsMissing, IsExpansion}
use Rattle.card_core.specs.internal.Walks.{IsCompleteWalk}
use Rattle.card_core.proofs.RisingLemmas.{same_rising}

pub expansion_of_walk : (cards : Cards) (group : List ℕ) (walk : Walk) (expansion : Expansion)
    → IsCompleteWalk cards group walk
    → expansion.people ≡ walk.people → expansion.missing ≡ walk.missing
    → IsStrictlySortedBy text_cmp expansion.people
    → IsStrictlySortedBy text_cmp expansion.missing → IsExpansion cards group expansion
expansion_of_walk cards group walk expansion whole people missing people_sorted missing_sorted =
    record {
      people = λ uid. subst (λ (texts : List (List ℕ)). Contains texts uid ↔ IsPerson cards group
          uid)
          (sym people) (whole.people uid);
      missing = λ value. subst (λ (texts : List (List ℕ)). Contains texts value ↔ IsMissing cards
          group
          value) (sym missing) (whole.missing value);
      people_sorted = people_sorted;
      missing_sorted = missing_sorted;
    }

pub one_expansion : (cards : Cards) (group : List ℕ) (a b : Expansion) → IsExpansion cards group a
    → IsExpansion cards group b → a ≡ b
one_expansion cards group a b is_a is_b =
    let people = same_rising a.people b.people is_a.people_sorted is_b.people_sorted
    (λ uid c. (is_b.people uid).1 ((is_a.people uid).0 c)) (λ uid c. (is_a.people uid).1
    ((is_b.people uid).0 c)) in
    let missing = same_rising a.missing b.missing is_a.missing_sorted is_b.missing_sorted
    (λ value c. (is_b.missing value).1 ((is_a.missing value).0 c))
    (λ value c. (is_a.missing value).1 ((is_b.missing value).0 c)) in
    λ i. record { people = people i; missing = missing i }
