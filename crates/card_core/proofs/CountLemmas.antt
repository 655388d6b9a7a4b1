-- How many groups are left falls with each that is found.
use Rattle.std.proofs.Common.{◌≡◌, ℕ, ◌+◌, ◌≤◌, Bool, true, false, cond, not, List, [], ◌∷◌, ◌++◌}
use Rattle.std.proofs.Common.{length, filter, Some, refl, sym, ap, ◌∙◌, ⊎_elim, inl, inr, arith}
use Rattle.std.proofs.Common.{is_some}
use Rattle.std.specs.FinMap as finite
use Rattle.std.specs.List.{Contains, list_any}
use Rattle.std.specs.Ordering.{eq_by_cmp}
use Rattle.std.proofs.lemmas.Bool.{or_cases, not-true, not_from_true, not_from_false}
use Rattle.std.proofs.lemmas.Bool.{false_from_ne_true, both_ways}
use Rattle.std.proofs.lemmas.List.{length-append}
use Rattle.vcard_lines.specs.declared.line.Line.{Line}
use Rattle.base_types.specs.TextMaps.{text_cmp}
use Rattle.base_types.proofs.TextLemmas.{same-equal}
use Rattle.card_core.specs.declared.walk.Walk.{Walk}
use Rattle.card_core.specs.Groups.{Cards}
use Rattle.card_core.specs.internal.TextSets.{GainsText}
use Rattle.card_core.specs.internal.Walks.{waiting_cards, SameGroups, AddsGroup, found_before}
use Rattle.card_core.specs.internal.Walks.{found_first, RecordsMember, value_names_none}
use Rattle.card_core.specs.internal.Walks.{value_names_person, value_names_group, cards_not_found}
use Rattle.card_core.specs.internal.Walks.{groups_left}
use Rattle.card_core.proofs.TextSetLemmas.{found, finds}

-- ---- a test that fewer texts pass

abbrev one_if : Bool → ℕ
one_if b = cond b 1 0

kept : (b : Bool) (text : List ℕ) (texts : List (List ℕ)) → length (cond b (text ∷ texts) texts)
    ≡ one_if b + length texts
kept true text texts = omega arith
kept false text texts = omega arith

module _ (p q : List ℕ → Bool) (narrower : (text : List ℕ) → q text ≡ true → p text ≡ true) where
  no_more_here : (text : List ℕ) → one_if (q text) ≤ one_if (p text)
  no_more_here text = elim (q text) as (λ b. q text ≡ b → one_if b ≤ one_if (p text)) [
    | true ↦ λ e. let passes = narrower text e in rw passes (omega arith)
    | false ↦ λ e. omega arith
  ] refl

  no_more : (texts : List (List ℕ)) → length (filter q texts) ≤ length (filter p texts)
  no_more [] = omega arith
  no_more (text ∷ texts) = omega (
    arith,
    kept (q text) text (filter q texts),
    kept (p text) text (filter p texts),
    no_more_here text,
    no_more texts,
  )

  lost_here : (lost : List ℕ) → p lost ≡ true → q lost ≡ false
      → (text : List ℕ) (texts : List (List ℕ)) → lost ≡ text
      → length (filter q (text ∷ texts)) + 1 ≤ length (filter p (text ∷ texts))
  lost_here lost was is text texts same =
      let was_here : one_if (p text) ≡ 1 = ap one_if (ap p (sym same) ∙ was) in
      let is_not_here : one_if (q text) ≡ 0 = ap one_if (ap q (sym same) ∙ is) in
      omega (
        arith,
        kept (q text) text (filter q texts),
        kept (p text) text (filter p texts),
        no_more texts,
      )

  lost_later : (text : List ℕ) (texts : List (List ℕ))
      → length (filter q texts) + 1 ≤ length (filter p texts)
      → length (filter q (text ∷ texts)) + 1 ≤ length (filter p (text ∷ texts))
  lost_later text texts rest = omega (
    arith,
    kept (q text) text (filter q texts),
    kept (p text) text (filter p texts),
    no_more_here text,
  )

  pub one_fewer : (lost : List ℕ) → p lost ≡ true → q lost ≡ false → (texts : List (List ℕ))
      → list_any (eq_by_cmp text_cmp lost) texts ≡ true
      → length (filter q texts) + 1 ≤ length (filter p texts)
  one_fewer lost was is [] none = absurd (cc)
  one_fewer lost was is (text ∷ texts) there = ⊎_elim
      (λ e. lost_here lost was is text texts (same-equal lost text e))
      (λ later. lost_later text texts (one_fewer lost was is texts later))
      (or_cases (eq_by_cmp text_cmp lost text) (list_any (eq_by_cmp text_cmp lost) texts) there)

-- ---- a group that is found

unmet_fewer : (cards : Cards) (uid : List ℕ) (lines : List Line) (old new : List (List ℕ))
    → finite.get cards uid ≡ Some lines → ¬ (Contains old uid) → GainsText old new uid
    → length (cards_not_found cards new) + 1 ≤ length (cards_not_found cards old)
unmet_fewer cards uid lines old new is unmet_yet gains = one_fewer
    (λ text. not (list_any (eq_by_cmp text_cmp text) old))
    (λ text. not (list_any (eq_by_cmp text_cmp text) new))
    (λ text e. not_from_false _ (false_from_ne_true _ (λ had. both_ways _ (not-true _ e)
    (finds text new ((gains.texts text).1 (inl (found text old had)))))))
    uid
    (not_from_false _ (false_from_ne_true _ (λ had. unmet_yet (found uid old had))))
    (not_from_true _ (finds uid new ((gains.texts uid).1 (inr refl))))
    (finite.keys cards)
    (sym (finite.contains_key-keys cards uid) ∙ ap is_some is)

same_left : (cards : Cards) (old new : Walk) → SameGroups old new
    → groups_left cards new ≤ groups_left cards old
same_left cards old new same =
    let unmet_same : length (cards_not_found cards new.groups)
    ≡ length (cards_not_found cards old.groups) =
    ap (λ groups. length (cards_not_found cards groups)) same.groups in
    let waiting_same : length (waiting_cards new) ≡ length (waiting_cards old) =
    ap length same.waiting in
    omega arith

left_after_meeting : (cards : Cards) (uid : List ℕ) (lines : List Line) (old new : Walk)
    → finite.get cards uid ≡ Some lines → AddsGroup uid lines old new
    → groups_left cards new ≤ groups_left cards old
left_after_meeting cards uid lines old new is (found_before had people groups) =
    same_left cards old new groups
left_after_meeting cards uid lines old new is (found_first unmet_yet gains waits people) =
    let one_more : length (waiting_cards new) ≡ length (waiting_cards old) + 1 = ap length waits
    ∙ length-append (waiting_cards old) (lines ∷ []) in
    omega (arith, unmet_fewer cards uid lines old.groups new.groups is unmet_yet gains)

-- a step leaves no more groups
pub step_left : (cards : Cards) (value : List ℕ) (old new : Walk)
    → RecordsMember cards value old new → groups_left cards new ≤ groups_left cards old
step_left cards value old new (value_names_none none gains people groups) =
    same_left cards old new groups
step_left cards value old new (value_names_person uid lines names differs gains missing groups) =
    same_left cards old new groups
step_left cards value old new (value_names_group uid lines names is meets) =
    left_after_meeting cards uid lines old new names.card meets

-- removing a group decreases the count by one
pub taking_left : (cards : Cards) (lines : List Line) (old new : Walk)
    → waiting_cards old ≡ waiting_cards new ++ lines ∷ [] → new.groups ≡ old.groups
    → groups_left cards new + 1 ≤ groups_left cards old
taking_left cards lines old new waits groups =
    let unmet_same : length (cards_not_found cards new.groups)
    ≡ length (cards_not_found cards old.groups) =
    ap (λ groups. length (cards_not_found cards groups)) groups in
    let one_less : length (waiting_cards old) ≡ length (waiting_cards new) + 1 = ap length waits
    ∙ length-append (waiting_cards new) (lines ∷ []) in
    omega arith
