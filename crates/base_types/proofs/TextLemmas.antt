-- Texts as keys, and the finite maps from them.
use Rattle.std.proofs.Common.{◌≡◌, ◌≢◌, ℕ, Bool, true, false, cond, List, Some, bytes_eq, refl, sym}
use Rattle.std.proofs.Common.{ap, ◌∙◌, subst, ⊎_elim, is_eq, Ordering, Less, Equal, Greater}
use Rattle.std.specs.Ordering.{eq_by_cmp}
use Rattle.std.specs.Cmp.{IsTotalOrder, IsEquivalence, eq_by_cmp_equiv}
use Rattle.std.specs.Cmp.Lexicographic.{nat_list_cmp_total}
use Rattle.std.specs.FinMap as finite
use Rattle.std.specs.FinMap.{get-insert, same_map}
use Rattle.std.proofs.lemmas.Bool.{cases_Bool, cond-true, cond-false, both_ways, false_from_ne_true}
use Rattle.std.proofs.lemmas.Map.Lookups.{exact_bytes}
use Rattle.std.proofs.lemmas.Slice.Eq.{bytes_eq-Decides}
use Rattle.base_types.specs.TextMaps.{text_cmp}

pub text_total : IsTotalOrder text_cmp
text_total = nat_list_cmp_total

abbrev pub same : List ℕ → List ℕ → Bool
same a b = eq_by_cmp text_cmp a b

pub same_equiv : IsEquivalence same
same_equiv = eq_by_cmp_equiv text_total

is_eq-Equal : (r : Ordering) → is_eq r ≡ true → r ≡ Equal
is_eq-Equal Less e = cc
is_eq-Equal Equal e = refl
is_eq-Equal Greater e = cc

pub same-equal : (a b : List ℕ) → same a b ≡ true → a ≡ b
same-equal a b e = exact_bytes a b (is_eq-Equal (text_cmp a b) e)

pub same_self : (a : List ℕ) → same a a ≡ true
same_self a = same_equiv.refl a

pub same-other : (a b : List ℕ) → a ≢ b → same a b ≡ false
same-other a b ne = false_from_ne_true _ (λ e. ne (same-equal a b e))

-- what `==` of two texts says
pub same_text : (a b : List ℕ) → bytes_eq a b ≡ true → a ≡ b
same_text a b e = (bytes_eq-Decides a b).0 e

pub other_text : (a b : List ℕ) → bytes_eq a b ≡ false → a ≢ b
other_text a b e is = both_ways _ e ((bytes_eq-Decides a b).1 is)

module _ {X : Type 0} (m : finite.FinMap text_cmp X) where
  pub get-insert_here : (k : List ℕ) (v : X) → finite.get (finite.insert m k v) k ≡ Some v
  get-insert_here k v = get-insert text_total m k v k ∙ cond-true _ _ _ (same_self k)

  -- writes at two keys commute
  pub insert-insert : (k name : List ℕ) (v w : X) → same name k ≡ false
      → finite.insert (finite.insert m name w) k v ≡ finite.insert (finite.insert m k v) name w
  insert-insert k name v w ne = same_map text_total exact_bytes _ _ (λ q.
      get-insert text_total (finite.insert m name w) k v q
      ∙ ap (cond (same q k) (Some v)) (get-insert text_total m name w q)
      ∙ turned q ∙ sym (get-insert text_total (finite.insert m k v) name w q
      ∙ ap (cond (same q name) (Some w)) (get-insert text_total m k v q)))
    where
      turned : (q : List ℕ) → cond (same q k) (Some v) (cond (same q name) (Some w)
          (finite.get m q)) ≡ cond (same q name) (Some w)
          (cond (same q k) (Some v) (finite.get m q))
      turned q = ⊎_elim
          (λ here. cond-true _ _ _ here ∙ sym (cond-false _ _ _ (not_both here)
          ∙ cond-true _ _ _ here))
          (λ there. cond-false _ _ _ there
          ∙ ap (cond (same q name) (Some w)) (sym (cond-false _ _ _ there)))
          (cases_Bool (same q k))
        where
          not_both : same q k ≡ true → same q name ≡ false
          not_both here = false_from_ne_true _
              (λ e. both_ways _ ne (subst (λ (u : List ℕ). same u k ≡ true) (same-equal q name e)
              here))

  -- of two writes at one key the last counts
  pub insert_over : (k : List ℕ) (v w : X) → finite.insert (finite.insert m k v) k w
      ≡ finite.insert m k w
  insert_over k v w = same_map text_total exact_bytes _ _ (λ q.
      get-insert text_total (finite.insert m k v) k w q
      ∙ ap (cond (same q k) (Some w)) (get-insert text_total m k v q)
      ∙ elim (same q k) as (λ t. cond t (Some w) (cond t (Some v) (finite.get m q))
      ≡ cond t (Some w) (finite.get m q)) [ true ↦ refl | false ↦ refl ]
      ∙ sym (get-insert text_total m k w q))
