-- Who is due, and in which order.
use Rattle.std.proofs.Common.{◌≡◌, ℕ, ◌<◌, Bool, true, false, cond, ◌||◌, inl, inr, List, [], ◌∷◌}
use Rattle.std.proofs.Common.{filter, refl, sym, ap, ◌∙◌, subst, ⊎_elim, arith}
use Rattle.std.specs.List.{AllByRecursion}
use Rattle.std.proofs.lemmas.Bool.{cases_Bool, or_cases, or_left, or_right, and_parts, both_ways}
use Rattle.std.proofs.lemmas.Bool.{false_from_ne_true, ltb-true, lt-ltb}
use Rattle.std.proofs.lemmas.Map.Views.{any-filter_same, Contains-from_any, list_any-from_Contains}
use Rattle.book_model.specs.declared.token.Mark.{Mark}
use Rattle.book_laws.specs.EventLogs.{BookEvent, same_uid, last_number, touched_uids, HasEventAbove}
use Rattle.book_laws.specs.Reports.{is_due_member, due}
use Rattle.book_laws.specs.ReportLaws.{DueMembersHaveEvents}
use Rattle.book_model.proofs.BasicLemmas.{both}
use Rattle.base_types.proofs.TextLemmas.{same_equiv, same-equal}
use Rattle.book_laws.proofs.HistoryLemmas.{has, last_event, event-le, has-touched, Rises}
use Rattle.book_laws.proofs.HistoryLemmas.{touched-rises}

-- who is due is in the list
pub has-due : (h : List BookEvent) (mark : Mark) (uid : List ℕ) → is_due_member h mark uid ≡ true
    → has (due h mark) uid ≡ true
has-due h mark uid d =
    let parts = and_parts _ _ d in
    let since : mark.at < last_number h uid = ltb-true _ _ parts.0 in
    any-filter_same (same_uid uid) (is_due_member h mark) true
    (λ v is. subst (λ (u : List ℕ). is_due_member h mark u ≡ true) (same-equal uid v is) d)
    (touched_uids h)
    ∙ has-touched h uid (omega arith)

pub any_passes : (p : List ℕ → Bool) (u : List ℕ) (uids : List (List ℕ))
    → has (filter p uids) u ≡ true → p u ≡ true
any_passes p u [] h = absurd (both_ways _ refl h)
any_passes p u (v ∷ uids) h =
    elim (p v) as (λ b. p v ≡ b → has (cond b (v ∷ filter p uids) (filter p uids)) u ≡ true
    → p u ≡ true) [
      | true ↦ λ e h. ⊎_elim (λ is. ap p (same-equal u v is)
          ∙ e) (λ later. any_passes p u uids later) (or_cases _ _ h)
      | false ↦ λ e h. any_passes p u uids h
    ] refl h

-- ---- the tests on last events, in the words of events

above_last : (h : List BookEvent) (bound : ℕ) (uid : List ℕ) → bound < last_number h uid
    → HasEventAbove h bound uid
above_last h bound uid less = record {
  number = last_number h uid;
  above = less;
  event = last_event h uid (omega arith);
}

last_above : (h : List BookEvent) (bound : ℕ) (uid : List ℕ) → HasEventAbove h bound uid
    → bound < last_number h uid
last_above h bound uid has = let more = event-le h has.number uid has.event in let above =
    has.above in omega (arith, more, above)

pub due_have_events : DueMembersHaveEvents
due_have_events h mark uid = (
  λ c.
      let d : is_due_member h mark uid ≡ true =
      any_passes (is_due_member h mark) uid (touched_uids h) (list_any-from_Contains same_equiv
      uid (due h mark) c) in
      let parts = and_parts _ _ d in (
        above_last h mark.at uid (ltb-true _ _ parts.0),
        ⊎_elim (λ here. inl here) (λ late. inr (above_last h mark.base uid (ltb-true _ _ late)))
            (or_cases _ _ parts.1),
      ),
  λ r.
      let since = last_above h mark.at uid r.0 in
      Contains-from_any same-equal uid (due h mark) (has-due h mark uid
      (both _ _ (lt-ltb _ _ since)
      (⊎_elim (λ here. or_left _ _ here)
      (λ late. or_right _ _ (lt-ltb _ _ (last_above h mark.base uid late))) r.1))),
)

-- ---- lists that rise

-- in a list that rises by f, later elements are above
module _ (f : List ℕ → ℕ) where
  pub above_first : (uid : List ℕ) (n : ℕ) (uids : List (List ℕ))
      → AllByRecursion (λ v. n < f v) uids → has uids uid ≡ true → n < f uid
  above_first uid n [] a h = absurd (both_ways false refl h)
  above_first uid n (v ∷ uids) a h =
      ⊎_elim (λ is. subst (λ (u : List ℕ). n < f u) (sym (same-equal uid v is)) a.0)
      (λ later. above_first uid n uids a.1 later) (or_cases _ _ h)

  above_filter : (p : List ℕ → Bool) (n : ℕ) (uids : List (List ℕ))
      → AllByRecursion (λ v. n < f v) uids → AllByRecursion (λ v. n < f v) (filter p uids)
  above_filter p n [] a = tt
  above_filter p n (v ∷ uids) a =
      elim (p v) as (λ b. AllByRecursion (λ v. n < f v)
      (cond b (v ∷ filter p uids) (filter p uids))) [
        | true ↦ (a.0, above_filter p n uids a.1)
        | false ↦ above_filter p n uids a.1
      ]

  pub rises-filter : (p : List ℕ → Bool) (uids : List (List ℕ)) → Rises f uids
      → Rises f (filter p uids)
  rises-filter p [] r = tt
  rises-filter p (v ∷ uids) r =
      elim (p v) as (λ b. Rises f (cond b (v ∷ filter p uids) (filter p uids))) [
        | true ↦
            (above_filter p (f v) uids r.0, rises-filter p uids r.1)
        | false ↦
            rises-filter p uids r.1
      ]

  not_later : (x : List ℕ) (xs : List (List ℕ)) → AllByRecursion (λ v. f x < f v) xs
      → has xs x ≡ false
  not_later x xs above = false_from_ne_true _ (λ h. let less = above_first x (f x) xs above h in
      absurd (omega arith))

  first_same : (x y : List ℕ) (xs ys : List (List ℕ)) → AllByRecursion (λ v. f x < f v) xs
      → AllByRecursion (λ v. f y < f v) ys → has (y ∷ ys) x ≡ true → has (x ∷ xs) y ≡ true → x ≡ y
  first_same x y xs ys a b hx hy = ⊎_elim
      (λ is. same-equal x y is)
      (λ in_ys. ⊎_elim
      (λ is. sym (same-equal y x is))
      (λ in_xs. let less = above_first x (f y) ys b in_ys in
      let more = above_first y (f x) xs a in_xs in absurd (omega arith))
      (or_cases _ _ hy))
      (or_cases _ _ hx)

  -- two that rise by one number and have the same members are equal
  pub same_rising : (xs ys : List (List ℕ)) → Rises f xs → Rises f ys
      → ((u : List ℕ) → has xs u ≡ has ys u) → xs ≡ ys
  same_rising [] [] a b h = refl
  same_rising [] (y ∷ ys) a b h = absurd (both_ways _ (sym (h y)) (or_left _ _ (same_equiv.refl y)))
  same_rising (x ∷ xs) [] a b h = absurd (both_ways _ (h x) (or_left _ _ (same_equiv.refl x)))
  same_rising (x ∷ xs) (y ∷ ys) a b h =
      let is : x ≡ y = first_same x y xs ys a.0 b.0 (sym (h x) ∙ or_left _ _ (same_equiv.refl x))
      (h y ∙ or_left _ _ (same_equiv.refl y)) in
      let above : AllByRecursion (λ v. f x < f v) ys =
      subst (λ (w : List ℕ). AllByRecursion (λ v. f w < f v) ys) (sym is) b.0 in
      let rest : xs ≡ ys = same_rising xs ys a.1 b.1 (λ u. ⊎_elim
      (λ here. let e = same-equal u x here in
      ap (has xs) e ∙ not_later x xs a.0 ∙ sym (ap (has ys) e ∙ not_later x ys above))
      (λ other.
      sym (ap (λ t. t || has xs u) other) ∙ h u ∙ ap (λ t. t || has ys u) (ap (same_uid u) (sym is)
      ∙ other))
      (cases_Bool (same_uid u x))) in
      ap (λ v. v ∷ xs) is ∙ ap (λ vs. y ∷ vs) rest

pub due-rises : (h : List BookEvent) (mark : Mark) → Rises (last_number h) (due h mark)
due-rises h mark = rises-filter (last_number h) (is_due_member h mark) (touched_uids h)
    (touched-rises h)
