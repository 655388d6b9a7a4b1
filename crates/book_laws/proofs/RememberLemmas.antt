-- The tombstones of a book, as its log grows and its horizon rises.
use Rattle.std.proofs.Common.{◌≡◌, ℕ, ◌+◌, ◌<◌, ◌≤◌, ◌⊎◌, inl, inr, Bool, true, false, cond, not}
use Rattle.std.proofs.Common.{◌&&◌, List, [], ◌∷◌, ◌++◌, length, filter, is_some, nat_lt, nat_le}
use Rattle.std.proofs.Common.{refl, sym, ap, ◌∙◌, subst, ⊎_elim, arith}
use Rattle.std.specs.List.{AllByRecursion}
use Rattle.std.specs.FinMap as finite
use Rattle.std.specs.FinMap.{get-insert}
use Rattle.std.proofs.Math.Bool.{and-true, and-false}
use Rattle.std.proofs.lemmas.Bool.{and_parts, or_left, cond-true, cond-false, leb-true, ltb-true}
use Rattle.std.proofs.lemmas.Bool.{lt-ltb, false_from_ne_true}
use Rattle.std.proofs.lemmas.Bool.Decides.{nat_tests}
use Rattle.std.proofs.lemmas.List.{length-append}
use Rattle.std.proofs.lemmas.List.Elements.{filter-append}
use Rattle.vcard_lines.specs.declared.line.Line.{Line}
use Rattle.book_model.specs.declared.change.Change.{Change}
use Rattle.book_model.specs.declared.change.Change.TheVariants.{Stores, TakesAway}
use Rattle.book_model.specs.declared.change.StoreReason.{StoreReason}
use Rattle.book_laws.specs.EventLogs.{BookEvent, same_uid, live, last_number, touched_uids}
use Rattle.book_laws.specs.ValidLogs.{IsPossibleChange}
use Rattle.book_laws.specs.HistoryExtension.{Extends}
use Rattle.book_laws.specs.StoreHistories.{BookHistory, IsSoundHistory, is_tombstone}
use Rattle.book_laws.specs.StoreHistories.{tombstone_uids}
use Rattle.book_laws.specs.HistorySteps.{horizon_past_first, with_event}
use Rattle.book_laws.specs.HistoryChanges.{event, with_horizon}
use Rattle.base_types.proofs.TextLemmas.{text_total, same_self}
use Rattle.book_laws.proofs.DueLemmas.{any_passes, rises-filter}
use Rattle.book_laws.proofs.FilterLemmas.{filter_both, filter_alike, filter-le, filter_all}
use Rattle.book_laws.proofs.FilterLemmas.{all_weaker}
use Rattle.book_laws.proofs.HistoryLemmas.{has, last_other, last-le, get-changed, Rises}
use Rattle.book_laws.proofs.HistoryLemmas.{touched-rises}
use Rattle.book_laws.proofs.PassingRows.{both_above}

-- ---- a longer log

-- the history with the event, before anything is dropped
abbrev pub longer : BookHistory → BookEvent → BookHistory
longer history e = record history { log = e ∷ history.log }

module _ (history : BookHistory) (e : BookEvent) where
  abbrev pub others : List ℕ → Bool
  others v = not (same_uid v e.uid)

  remembered_other : (v : List ℕ) → same_uid v e.uid ≡ false → is_tombstone (longer history e) v
      ≡ is_tombstone history v
  remembered_other v other =
      ap (λ o. not (is_some o) && nat_lt history.horizon (last_number (e ∷ history.log) v))
      (get-changed (live history.log) e.uid v e.change (length history.log + 1) other)
      ∙ ap (λ n. not (is_some (finite.get (live history.log) v)) && nat_lt history.horizon n)
      (last_other history.log e v other)

  alike : (v : List ℕ) → (others v && is_tombstone (longer history e) v)
      ≡ (is_tombstone history v && others v)
  alike v = elim (same_uid v e.uid) as (λ b. same_uid v e.uid ≡ b
      → (not b && is_tombstone (longer history e) v) ≡ (is_tombstone history v && not b)) [
        | true ↦ λ here. sym (and-false (is_tombstone history v))
        | false ↦ λ other. remembered_other v other ∙ sym (and-true (is_tombstone history v))
      ] refl

  -- the other tombstones, and the event's own member if it is one
  pub remembered_longer : tombstone_uids (longer history e) ≡ filter others (tombstone_uids history)
      ++ filter (is_tombstone (longer history e)) (e.uid ∷ [])
  remembered_longer =
      filter-append (is_tombstone (longer history e)) (filter others (touched_uids history.log))
      (e.uid ∷ [])
      ∙ ap (λ us. us ++ filter (is_tombstone (longer history e)) (e.uid ∷ []))
      (filter_both (is_tombstone (longer history e)) others (touched_uids history.log)
      ∙ filter_alike (λ v. others v && is_tombstone (longer history e) v)
      (λ v. is_tombstone history v && others v) alike (touched_uids history.log)
      ∙ sym (filter_both others (is_tombstone history) (touched_uids history.log)))

  pub one_more_remembered : length (tombstone_uids (longer history e)) ≤ length
      (tombstone_uids history) + 1
  one_more_remembered =
      let all = ap length remembered_longer ∙ length-append (filter others (tombstone_uids history))
      (filter (is_tombstone (longer history e)) (e.uid ∷ [])) in
      let first = filter-le others (tombstone_uids history) in
      let own = filter-le (is_tombstone (longer history e)) (e.uid ∷ []) in
      omega (arith, all, first, own)

-- a stored card has no tombstone
pub none_more_remembered : (history : BookHistory) (uid : List ℕ) (card : List Line) (why :
    StoreReason) → length (tombstone_uids (longer history (event uid (Stores card why)))) ≤ length
    (tombstone_uids history)
none_more_remembered history uid card why =
    let e = event uid (Stores card why) in
    let after : BookHistory = longer history e in
    let is_live : is_some (finite.get (live after.log) uid) ≡ true =
    ap is_some (get-insert text_total (live history.log) uid
    (record { version = length history.log + 1; card = card }) uid
    ∙ cond-true _ _ _ (same_self uid)) in
    let removed_up_to_base : is_tombstone after uid ≡ false =
    ap (λ b. not b && nat_lt history.horizon (last_number after.log uid)) is_live in
    let own = ap length (cond-false (is_tombstone after uid) (uid ∷ []) [] removed_up_to_base) in
    let all = ap length (remembered_longer history e)
    ∙ length-append (filter (others history e) (tombstone_uids history))
    (filter (is_tombstone after) (uid ∷ [])) in
    let first = filter-le (others history e) (tombstone_uids history) in
    omega (arith, all, first, own)

-- ---- a higher horizon

pub remembered_above : (history : BookHistory) (upto : ℕ) → history.horizon ≤ upto
    → tombstone_uids (with_horizon history upto)
    ≡ filter (λ v. nat_lt upto (last_number history.log v)) (tombstone_uids history)
remembered_above history upto rises =
    filter_alike (is_tombstone (with_horizon history upto)) (λ v. is_tombstone history v
    && nat_lt upto (last_number history.log v)) alike (touched_uids history.log)
    ∙ sym (filter_both (λ v. nat_lt upto (last_number history.log v)) (is_tombstone history)
    (touched_uids history.log))
  where
    alike : (v : List ℕ) → is_tombstone (with_horizon history upto) v
        ≡ (is_tombstone history v && nat_lt upto (last_number history.log v))
    alike v = elim (is_some (finite.get (live history.log) v)) as
        (λ b. (not b && nat_lt upto (last_number history.log v))
        ≡ ((not b && nat_lt history.horizon (last_number history.log v))
        && nat_lt upto (last_number history.log v))) [
          | true ↦ refl
          | false ↦ sym (both_above history.horizon upto (last_number history.log v) rises)
        ]

-- the first tombstone is the oldest, and is above the horizon
pub record LeftFirst (history : BookHistory) (uid : List ℕ) (uids : List (List ℕ)) : Type 0 where
  pub above : history.horizon < last_number history.log uid
  pub later : AllByRecursion (λ v. last_number history.log uid < last_number history.log v) uids

pub left_first : (history : BookHistory) (uid : List ℕ) (uids : List (List ℕ))
    → tombstone_uids history ≡ uid ∷ uids → LeftFirst history uid uids
left_first history uid uids is =
    let known : is_tombstone history uid ≡ true =
    any_passes (is_tombstone history) uid (touched_uids history.log) (ap (λ us. has us uid) is
    ∙ or_left _ _ (same_self uid)) in
    let rises : Rises (last_number history.log) (uid ∷ uids) =
    subst (Rises (last_number history.log)) is (rises-filter (last_number history.log)
    (is_tombstone history) (touched_uids history.log) (touched-rises history.log)) in
    record { above = ltb-true _ _ (and_parts _ _ known).1; later = rises.0 }

-- where the first is dropped, the others are kept
pub rest_remembered : (history : BookHistory) (uid : List ℕ) (uids : List (List ℕ))
    → tombstone_uids history ≡ uid ∷ uids
    → tombstone_uids (with_horizon history (last_number history.log uid)) ≡ uids
rest_remembered history uid uids is =
    let n = last_number history.log uid in
    let l = left_first history uid uids is in
    let above = l.above in
    let stays = λ (v : List ℕ). nat_lt n (last_number history.log v) in
    remembered_above history n (omega (arith, above)) ∙ ap (filter stays) is
    ∙ cond-false (stays uid) (uid ∷ filter stays uids) (filter stays uids)
    (false_from_ne_true _ (λ e. let less = ltb-true n n e in absurd (omega (arith, less))))
    ∙ filter_all stays uids (all_weaker (λ v. n < last_number history.log v) (λ v. stays v ≡ true)
    (λ v less. lt-ltb n (last_number history.log v) less) uids l.later)

-- ---- after an event

pub not_below : (m n : ℕ) → nat_le m n ≡ false → n < m
not_below m n e = grind (arith, nat_tests, e)

-- the result is the longer history, or that one without its oldest tombstone
pub after_event : (P : BookHistory → Type 0) (history : BookHistory) (e : BookEvent)
    → ((length (tombstone_uids (longer history e)) ≤ history.keep)
    ⊎ (length (tombstone_uids (longer history e)) ≤ length (tombstone_uids history))
    → P (longer history e))
    → ((uid : List ℕ) (uids : List (List ℕ)) → tombstone_uids (longer history e) ≡ uid ∷ uids
    → history.keep < length (uid ∷ uids)
    → P (with_horizon (longer history e) (last_number (e ∷ history.log) uid)))
    → P (with_event history e)
after_event P history e all dropped = by_change e.uid e.change all dropped
  where
    by_change : (uid : List ℕ) (change : Change)
        → ((length (tombstone_uids (longer history (event uid change))) ≤ history.keep)
        ⊎ (length (tombstone_uids (longer history (event uid change))) ≤ length
        (tombstone_uids history)) → P (longer history (event uid change)))
        → ((first : List ℕ) (uids : List (List ℕ))
        → tombstone_uids (longer history (event uid change)) ≡ first ∷ uids
        → history.keep < length (first ∷ uids)
        → P (with_horizon (longer history (event uid change))
        (last_number (event uid change ∷ history.log) first)))
        → P (with_event history (event uid change))
    by_change uid (Stores card why) all dropped =
        all (inr (none_more_remembered history uid card why))
    by_change uid (TakesAway why) all dropped =
        by_test (nat_le (length (tombstone_uids after)) history.keep) refl
      where
        after : BookHistory
        after = longer history (event uid (TakesAway why))

        by_first : (uids : List (List ℕ)) → tombstone_uids after ≡ uids → history.keep < length uids
            → P (with_horizon after (horizon_past_first after uids))
        by_first [] is more = absurd (omega (arith, more))
        by_first (first ∷ uids) is more = dropped first uids is more

        by_test : (b : Bool) → nat_le (length (tombstone_uids after)) history.keep ≡ b
            → P (with_horizon after (cond b history.horizon
            (horizon_past_first after (tombstone_uids after))))
        by_test true is = all (inl (leb-true _ _ is))
        by_test false is = by_first (tombstone_uids after) refl
            (not_below (length (tombstone_uids after)) history.keep is)

-- ---- sound histories

pub sound_forgotten : (history : BookHistory) (upto : ℕ) → IsSoundHistory history
    → history.horizon ≤ upto → upto ≤ length history.log
    → IsSoundHistory (with_horizon history upto)
sound_forgotten history upto sound rises within_log =
    let fewer = filter-le (λ v. nat_lt upto (last_number history.log v)) (tombstone_uids history) in
    let is = ap length (remembered_above history upto rises) in
    let within = sound.within_keep in
    record {
      valid_log = sound.valid_log;
      within_log = within_log;
      keep_least = sound.keep_least;
      within_keep = omega (arith, fewer, is, within);
    }

-- a history stays sound after a possible event
pub sound_with : (history : BookHistory) (e : BookEvent) → IsSoundHistory history
    → IsPossibleChange e.uid e.change (finite.get (live history.log) e.uid)
    → IsSoundHistory (with_event history e)
sound_with history e sound may =
    let before = sound.within_log in
    let within = sound.within_keep in
    after_event IsSoundHistory history e
    (λ few. record {
      valid_log = (may, sound.valid_log);
      within_log = omega (arith, before);
      keep_least = sound.keep_least;
      within_keep = ⊎_elim (λ le. le) (λ le. omega (arith, le, within)) few;
    })
    (λ uid uids is more.
    let top = last-le (e ∷ history.log) uid in
    let left = ap length (rest_remembered (longer history e) uid uids is) in
    let were = ap length is in
    let one = one_more_remembered history e in
    record {
      valid_log = (may, sound.valid_log);
      within_log = top;
      keep_least = sound.keep_least;
      within_keep = omega (arith, left, were, one, within);
    })

-- and the new history extends the old one
pub by_event : (history : BookHistory) (e : BookEvent) → Extends history (with_event history e)
by_event history e =
    after_event (Extends history) history e
    (λ few. record {
      id = refl;
      later = e ∷ [];
      log = refl;
      horizon = omega arith;
      keep = refl;
      imports = λ key tally is. is;
    })
    (λ uid uids is more.
    let above = (left_first (longer history e) uid uids is).above in
    record {
      id = refl;
      later = e ∷ [];
      log = refl;
      horizon = omega (arith, above);
      keep = refl;
      imports = λ key tally is. is;
    })
