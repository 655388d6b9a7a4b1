-- The UIDs so far, and one more.
use Rattle.std.proofs.Common.{◌≡◌, ◌∷◌, ◌++◌, [], ℕ, List, Some, true, refl, sym, subst, ◌∙◌, inl}
use Rattle.std.proofs.Common.{inr, ⊎_elim, cond, zero, suc, arith, append_assoc}
use Rattle.std.specs.Option.{IsSome}
use Rattle.std.specs.Ordering.{eq_by_cmp}
use Rattle.std.specs.List.{Contains}
use Rattle.std.specs.FinMap as finite
use Rattle.std.specs.Cmp.Lexicographic.{nat_list_cmp_total}
use Rattle.std.proofs.lemmas.Bool.{both_ways, cases_Bool, cond-true, cond-false}
use Rattle.std.proofs.lemmas.Map.Text.{is_eq-slice_cmp}
use Rattle.std.proofs.lemmas.Slice.Eq.{bytes_eq-Decides}
use Rattle.std.proofs.lemmas.List.Elements.{Contains-append_left, Contains-append_right}
use Rattle.std.proofs.lemmas.List.Elements.{Contains-append_cases}
use Rattle.base_types.specs.TextMaps.{text_cmp}
use Rattle.base_types.proofs.TextLemmas.{same-equal}
use Rattle.card_conversion.specs.Deliveries.{HasUids}

text_same : (a b : List ℕ) → a ≡ b → eq_by_cmp text_cmp a b ≡ true
text_same a b e = is_eq-slice_cmp a b ∙ (bytes_eq-Decides a b).1 e

one_is : (x q : List ℕ) → Contains (x ∷ []) q → q ≡ x
one_is x q (zero, small, e) = sym e
one_is x q (suc i, small, e) = absurd (omega (arith, small))

one_has : (x : List ℕ) → Contains (x ∷ []) x
one_has x = (0, omega arith, refl)

module _ (uids : finite.FinMap text_cmp (Unit {0})) (known : List (List ℕ)) (uid : List ℕ) (has :
    HasUids uids known) where
  got : (q : List ℕ) → finite.get (finite.insert uids uid tt) q ≡ cond (eq_by_cmp text_cmp q uid)
      (Some tt) (finite.get uids q)
  got q = finite.get-insert nat_list_cmp_total uids uid tt q

  pub one_more_uid : HasUids (finite.insert uids uid tt) (known ++ uid ∷ [])
  one_more_uid q = elim (cases_Bool (eq_by_cmp text_cmp q uid)) [
    | inl here ↦
        let is : q ≡ uid = same-equal q uid here in (
          λ some. Contains-append_right known (uid ∷ []) q (subst (Contains (uid ∷ [])) (sym is)
              (one_has uid)),
          λ had. subst IsSome (sym (got q ∙ cond-true _ _ _ here)) refl,
        )
    | inr there ↦ (
      λ some. Contains-append_left known (uid ∷ []) q
          ((has q).0 (subst IsSome (got q ∙ cond-false _ _ _ there) some)),
      λ had. subst IsSome (sym (got q ∙ cond-false _ _ _ there)) (⊎_elim
          (λ earlier. (has q).1 earlier)
          (λ last. absurd (both_ways _ there (text_same q uid (one_is uid q last))))
          (Contains-append_cases known (uid ∷ []) q had)),
    )
  ]

pub two_more_uids : (uids : finite.FinMap text_cmp (Unit {0})) (known : List (List ℕ)) (uid own :
    List ℕ) → HasUids uids known → HasUids (finite.insert (finite.insert uids uid tt) own tt)
    (known ++ uid ∷ own ∷ [])
two_more_uids uids known uid own has =
    subst (HasUids (finite.insert (finite.insert uids uid tt) own tt))
    (append_assoc known (uid ∷ []) (own ∷ []))
    (one_more_uid (finite.insert uids uid tt) (known ++ uid ∷ []) own (one_more_uid uids known uid
    has))

pub two_kept : (before between after : finite.FinMap text_cmp (Unit {0})) (known : List (List ℕ))
    (uid own key other : List ℕ) → after ≡ finite.insert between other tt
    → between ≡ finite.insert before key tt → key ≡ uid → other ≡ own → HasUids before known
    → HasUids after (known ++ uid ∷ own ∷ [])
two_kept before between after known uid own key other a b k o has =
    rw (a, b, k, o) (two_more_uids before known uid own has)

pub one_kept : (before after : finite.FinMap text_cmp (Unit {0})) (known : List (List ℕ)) (uid key :
    List ℕ) → after ≡ finite.insert before key tt → key ≡ uid → HasUids before known
    → HasUids after (known ++ uid ∷ [])
one_kept before after known uid key a k has = rw (a, k) (one_more_uid before known uid has)
