-- What a book forgets by itself: members of which more left it, after any number below, than it
-- keeps.
use Rattle.std.proofs.Common.{◌≡◌, ℕ, suc, ◌+◌, ◌-◌, ◌<◌, ◌≤◌, ◌⊎◌, inl, inr, true, cond, List, []}
use Rattle.std.proofs.Common.{◌∷◌, ◌++◌, length, filter, take, count_by, nat_lt, refl, sym, ap, ◌∙◌}
use Rattle.std.proofs.Common.{subst, ⊎_elim, arith}
use Rattle.std.proofs.Math.Nat.{add-sub_assoc, sub-eq-zero_of_le}
use Rattle.std.proofs.Math.Seq.{take-append-add}
use Rattle.std.proofs.lemmas.Bool.{and_parts, cases_lt, lt-ltb, ltb-true, false_from_ne_true}
use Rattle.std.proofs.lemmas.List.{length-append}
use Rattle.std.proofs.lemmas.List.Sums.{sum_by-cons, sum_by-append}
use Rattle.book_model.specs.declared.change.Change.{Change}
use Rattle.book_model.specs.declared.change.Change.TheVariants.{Stores, TakesAway}
use Rattle.book_laws.specs.EventLogs.{BookEvent, last_number, touched_uids}
use Rattle.book_laws.specs.HistoryExtension.{Extends}
use Rattle.book_laws.specs.RemovalCounts.{is_removal, removals_above}
use Rattle.book_laws.specs.StoreHistories.{BookHistory, is_tombstone, tombstone_uids}
use Rattle.book_laws.specs.HistorySteps.{with_event}
use Rattle.book_laws.specs.HistoryChanges.{event, with_horizon}
use Rattle.book_laws.proofs.FilterLemmas.{filter_none, filter_all, all_weaker}
use Rattle.book_laws.proofs.HistoryLemmas.{last-le}
use Rattle.book_laws.proofs.RememberLemmas.{longer, one_more_remembered, none_more_remembered}
use Rattle.book_laws.proofs.RememberLemmas.{remembered_above, left_first, after_event}

abbrev weight : BookEvent → ℕ
weight e = cond (is_removal e.change) 1 0

-- ---- the removals above a number

-- an event above the number is counted where it took a card away
one_more : (h : List BookEvent) (base : ℕ) (e : BookEvent) → base ≤ length h
    → removals_above (e ∷ h) base ≡ weight e + removals_above h base
one_more h base e le =
    ap (λ n. count_by (λ (d : BookEvent). is_removal d.change) (take n (e ∷ h)))
    (ap (λ n. n - base) (sym (next (length h))) ∙ add-sub_assoc le 1 ∙ next (length h - base))
    ∙ sum_by-cons weight e (take (length h - base) h)
  where
    next : (n : ℕ) → 1 + n ≡ suc n
    next n = omega arith

none_above : (h : List BookEvent) (base : ℕ) → length h ≤ base → removals_above h base ≡ 0
none_above h base le = ap (λ n. count_by (λ (d : BookEvent). is_removal d.change) (take n h))
    (sub-eq-zero_of_le le)

-- there are no fewer in a longer history
pub no_fewer : (later h : List BookEvent) (base : ℕ)
    → removals_above h base ≤ removals_above (later ++ h) base
no_fewer later h base = ⊎_elim
    (λ above. let none = none_above h base (omega (arith, above)) in omega (arith, none))
    (λ below.
    let more : removals_above (later ++ h) base ≡ count_by (λ (d : BookEvent). is_removal d.change)
    later + removals_above h base =
    ap (λ n. count_by (λ (d : BookEvent). is_removal d.change) (take n (later ++ h)))
    (ap (λ n. n - base) (length-append later h) ∙ add-sub_assoc below (length later))
    ∙ ap (count_by (λ (d : BookEvent). is_removal d.change))
    (take-append-add later h (length h - base))
    ∙ sum_by-append weight later (take (length h - base) h) in
    omega (arith, more))
    (cases_lt (length h) base)

-- ---- tombstones are removals after the horizon

no_later : (history : BookHistory) → length history.log ≤ history.horizon
    → tombstone_uids history ≡ []
no_later history le = filter_none (is_tombstone history) (λ v. false_from_ne_true _ (λ e.
    let above : history.horizon < last_number history.log v = ltb-true _ _ (and_parts _ _ e).1 in
    let top = last-le history.log v in
    absurd (omega (arith, above, top, le)))) (touched_uids history.log)

-- so there are no more tombstones than removals
remembered_left : (h : List BookEvent) (history : BookHistory) → history.log ≡ h
    → length (tombstone_uids history) ≤ removals_above history.log history.horizon
remembered_left [] history is =
    let none = ap length (no_later history (let l = ap length is in omega (arith, l))) in
    omega (arith, none)
remembered_left (e ∷ h) history is =
    subst (λ (es : List BookEvent). length (tombstone_uids (record history { log = es })) ≤
    removals_above es history.horizon) (sym is)
    (⊎_elim
    (λ above. let none = ap length (no_later (record history { log = e ∷ h })
    (omega (arith, above))) in omega (arith, none))
    (λ below.
    let rest = remembered_left h (record history { log = h }) refl in
    by_change e.uid e.change rest below)
    (cases_lt (length h) history.horizon))
  where
    by_change : (uid : List ℕ) (change : Change)
        → length (tombstone_uids (record history { log = h })) ≤ removals_above h history.horizon
        → history.horizon ≤ length h
        → length (tombstone_uids (longer (record history { log = h }) (event uid change))) ≤
        removals_above (event uid change ∷ h) history.horizon
    by_change uid (Stores card why) rest below =
        let one = one_more h history.horizon (event uid (Stores card why)) below in
        let none = none_more_remembered (record history { log = h }) uid card why in
        omega (arith, rest, one, none)
    by_change uid (TakesAway why) rest below =
        let one = one_more h history.horizon (event uid (TakesAway why)) below in
        let more = one_more_remembered (record history { log = h }) (event uid (TakesAway why)) in
        omega (arith, rest, one, more)

-- ---- a horizon that an event raised

-- more cards left the book after each number below its horizon than it keeps
abbrev pub LostAbove : BookHistory → ℕ → Type 0
LostAbove history base = base < history.horizon → history.keep < removals_above history.log base

dropped_lost : (history : BookHistory) (uid : List ℕ) (uids : List (List ℕ)) (base : ℕ)
    → tombstone_uids history ≡ uid ∷ uids → history.horizon ≤ base
    → base < last_number history.log uid → length (uid ∷ uids) ≤ removals_above history.log base
dropped_lost history uid uids base is low above =
    let stays = λ (v : List ℕ). nat_lt base (last_number history.log v) in
    let l = left_first history uid uids is in
    let all : tombstone_uids (with_horizon history base) ≡ uid ∷ uids =
    remembered_above history base low ∙ ap (filter stays) is
    ∙ filter_all stays (uid ∷ uids) (
      lt-ltb base (last_number history.log uid) above,
      all_weaker (λ v. last_number history.log uid < last_number history.log v) (λ v. stays v
          ≡ true) (λ v less. lt-ltb base (last_number history.log v) (omega (arith, above, less)))
          uids l.later,
    ) in
    let left = remembered_left history.log (with_horizon history base) refl in
    let many = ap length all in
    omega (arith, left, many)

-- an event leaves the horizon, or raises it only where more cards left the book than it keeps
pub event_loses : (history : BookHistory) (e : BookEvent)
    → ((with_event history e).horizon ≡ history.horizon) ⊎ ((base : ℕ) → history.horizon ≤ base
    → LostAbove (with_event history e) base)
event_loses history e =
    after_event (λ after. (after.horizon ≡ history.horizon) ⊎ ((base : ℕ) → history.horizon ≤ base
    → LostAbove after base)) history e
    (λ few. inl refl)
    (λ uid uids is more. inr (λ base low above.
    let many = dropped_lost (longer history e) uid uids base is low above in
    omega (arith, many, more)))

-- what a book lost it has lost for ever
pub still_lost : (old new : BookHistory) (base : ℕ) → Extends old new
    → old.keep < removals_above old.log base → new.keep < removals_above new.log base
still_lost old new base goes lost =
    let keep = goes.keep in
    let fewer = no_fewer goes.later old.log base in
    let is = ap (λ h. removals_above h base) goes.log in
    omega (arith, keep, fewer, is, lost)
