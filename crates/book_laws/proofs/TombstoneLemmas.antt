-- Which tombstones a book keeps, and which it drops by itself.
use Rattle.std.proofs.Common.{◌≡◌, ◌≢◌, ℕ, ◌+◌, ◌<◌, ◌⊎◌, inl, inr, true, false, not, ◌&&◌, List}
use Rattle.std.proofs.Common.{[], ◌∷◌, ◌++◌, length, filter, All, Option, Some, None, IsSome}
use Rattle.std.proofs.Common.{Result, Ok, Err, is_some, nat_lt, refl, sym, ap, ◌∙◌, subst, ⊎_elim}
use Rattle.std.proofs.Common.{arith}
use Rattle.std.specs.Option.{option_map_or}
use Rattle.std.specs.FinMap as finite
use Rattle.std.specs.FinMap.{get-insert, get-remove}
use Rattle.std.proofs.Math.Bool.{and-true, and-false}
use Rattle.std.proofs.lemmas.Bool.{cases_Bool, and_parts, both_ways, or_left, cond-true, not-true}
use Rattle.std.proofs.lemmas.Bool.{not_from_false, ltb-true, lt-ltb}
use Rattle.std.proofs.lemmas.List.{length-append}
use Rattle.std.proofs.lemmas.List.Elements.{All-nil, All-cons, All-head, All-tail}
use Rattle.std.proofs.lemmas.Map.Views.{Contains-from_any, list_any-from_Contains}
use Rattle.book_model.specs.declared.change.Change.{Change}
use Rattle.book_model.specs.declared.change.Change.TheVariants.{Stores, TakesAway}
use Rattle.book_model.specs.declared.change.RemovalReason.{RemovalReason}
use Rattle.book_model.specs.declared.change.RemovalReason.TheVariants.{Deletion, MoveOut}
use Rattle.book_model.specs.declared.refusal.Refusal.{Refusal}
use Rattle.book_model.specs.declared.refusal.Refusal.TheVariants.{NoSuchBook}
use Rattle.book_model.specs.CallOutcomes.{◌>>=◌}
use Rattle.book_model.specs.Removing.{remove_number}
use Rattle.book_model.proofs.AnswerLemmas.{same_answer, no_answer}
use Rattle.book_model.proofs.BasicLemmas.{both}
use Rattle.base_types.proofs.TextLemmas.{text_total, same_equiv, same_self, same-equal, same-other}
use Rattle.base_types.proofs.TextLemmas.{get-insert_here}
use Rattle.book_laws.specs.EventLogs.{BookEvent, same_uid, live, last_number, touched_uids}
use Rattle.book_laws.specs.TombstoneLaws.{TombstonesAreRemovedMembers, TombstonesAreInOrder}
use Rattle.book_laws.specs.TombstoneLaws.{AddsTombstone, ReplacesOldestTombstone}
use Rattle.book_laws.specs.TombstoneLaws.{RemovalsDropOldestTombstone, StoredCardsKeepHorizon}
use Rattle.book_laws.specs.TombstoneLaws.{DropsByRemoval, RemoveCallsDropOldestTombstone}
use Rattle.book_laws.specs.TombstoneLaws.{MoveCallsDropOldestTombstone}
use Rattle.book_laws.specs.LastChanges.{IsLastChange}
use Rattle.book_laws.specs.StoreHistories.{BookHistory, BookHistories, IsSoundHistory, is_tombstone}
use Rattle.book_laws.specs.StoreHistories.{tombstone_uids}
use Rattle.book_laws.specs.HistoryChanges.{event, with_horizon}
use Rattle.book_laws.specs.HistorySteps.{with_event, found_in_history}
use Rattle.book_laws.proofs.ChangeLemmas.{removed_is_live}
use Rattle.book_laws.proofs.DropLemmas.{remembered_has}
use Rattle.book_laws.proofs.DueLemmas.{any_passes, rises-filter}
use Rattle.book_laws.proofs.FilterLemmas.{filter_both, filter_alike}
use Rattle.book_laws.proofs.HistoryLemmas.{has, last_here, last_other, get-changed, touched-rises}
use Rattle.book_laws.proofs.MoveLemmas.{moves_transfer_one_card}
use Rattle.book_laws.proofs.PagingLemmas.{increasing}
use Rattle.book_laws.proofs.RememberLemmas.{longer, others, remembered_longer, rest_remembered}
use Rattle.book_laws.proofs.RememberLemmas.{after_event}

abbrev IsOfAnother : List ℕ → BookEvent → Type 0
IsOfAnother uid e = e.uid ≢ uid

-- ---- tombstones

-- the last change of a member with events that isn't live is a removal
record IsGone (h : List BookEvent) (uid : List ℕ) : Type 0 where
  why : RemovalReason
  change : IsLastChange h uid (last_number h uid) (TakesAway why)

gone_here : (h : List BookEvent) (own uid : List ℕ) (change : Change) → same_uid uid own ≡ true
    → is_some (finite.get (live (event own change ∷ h)) uid) ≡ false
    → IsGone (event own change ∷ h) uid
gone_here h own uid (Stores card why) here removed_up_to_base =
    absurd (both_ways _ removed_up_to_base
    (ap is_some (get-insert text_total (live h) own (record {
      version = length h + 1;
      card = card;
    }) uid ∙ cond-true _ _ _ here)))
gone_here h own uid (TakesAway why) here removed_up_to_base = record {
  why = why;
  change = record {
    later = [];
    earlier = h;
    parts = ap (λ u. event u (TakesAway why) ∷ h) (sym (same-equal uid own here));
    number_is = last_here h (event own (TakesAway why)) uid here;
    others = All-nil (IsOfAnother uid);
  };
}

is_gone : (h : List BookEvent) (uid : List ℕ) → is_some (finite.get (live h) uid) ≡ false
    → 0 < last_number h uid → IsGone h uid
is_gone [] uid removed_up_to_base some = absurd (omega (arith, some))
is_gone (e ∷ h) uid removed_up_to_base some = ⊎_elim
    (λ here. gone_here h e.uid uid e.change here removed_up_to_base)
    (λ other. later_on other (is_gone h uid
    (ap is_some (sym (get-changed (live h) e.uid uid e.change (length h + 1) other))
    ∙ removed_up_to_base) (subst (λ n. 0 < n) (last_other h e uid other) some)))
    (cases_Bool (same_uid uid e.uid))
  where
    differs : same_uid uid e.uid ≡ false → e.uid ≢ uid
    differs other new_named = let t : same_uid uid e.uid ≡ true =
        subst (λ (u : List ℕ). same_uid u e.uid ≡ true) new_named (same_self e.uid) in cc

    later_on : same_uid uid e.uid ≡ false → IsGone h uid → IsGone (e ∷ h) uid
    later_on other g = record {
      why = g.why;
      change = record {
        later = e ∷ g.change.later;
        earlier = g.change.earlier;
        parts = ap (λ (es : List BookEvent). e ∷ es) g.change.parts;
        number_is = last_other h e uid other ∙ g.change.number_is;
        others = All-cons (IsOfAnother uid) e g.change.later (differs other) g.change.others;
      };
    }

-- and a member whose last change is a removal isn't live, and has that number
removed_after_last : (uid : List ℕ) (why : RemovalReason) (earlier later : List BookEvent)
    → All (IsOfAnother uid) later
    → (finite.get (live (later ++ event uid (TakesAway why) ∷ earlier)) uid ≡ None)
    × (last_number (later ++ event uid (TakesAway why) ∷ earlier) uid ≡ length earlier + 1)
removed_after_last uid why earlier [] others = (
  get-remove text_total (live earlier) uid uid
      ∙ cond-true _ _ _ (same_self uid),
  last_here earlier (event uid (TakesAway why)) uid
      (same_self uid),
)
removed_after_last uid why earlier (e ∷ later) others =
    let h : List BookEvent = later ++ event uid (TakesAway why) ∷ earlier in
    let other : same_uid uid e.uid ≡ false =
    same-other uid e.uid (λ new_named. All-head (IsOfAnother uid) e later others
    (sym new_named)) in
    let rest = removed_after_last uid why earlier later (All-tail (IsOfAnother uid) e later
    others) in (
      get-changed (live h) e.uid uid e.change (length h + 1) other ∙ rest.0,
      last_other h e uid other
          ∙ rest.1,
    )

pub tombstones_are_removed : TombstonesAreRemovedMembers
tombstones_are_removed history uid = (
  λ c.
      let r = any_passes (is_tombstone history) uid (touched_uids history.log)
      (list_any-from_Contains same_equiv uid (tombstone_uids history) c) in
      let parts = and_parts (not (is_some (finite.get (live history.log) uid)))
      (nat_lt history.horizon (last_number history.log uid)) r in
      let since : history.horizon < last_number history.log uid =
      ltb-true history.horizon (last_number history.log uid) parts.1 in
      let g = is_gone history.log uid (not-true _ parts.0) (omega (arith, since)) in
      record {
        number = last_number history.log uid;
        why = g.why;
        change = g.change;
        after = since;
      },
  λ l.
      let rest_after = removed_after_last uid l.why l.change.earlier l.change.later
      l.change.others in
      let none : finite.get (live history.log) uid ≡ None =
      ap (λ (h : List BookEvent). finite.get (live h) uid) l.change.parts ∙ rest_after.0 in
      let number : last_number history.log uid ≡ l.number =
      ap (λ (h : List BookEvent). last_number h uid) l.change.parts ∙ rest_after.1
      ∙ sym l.change.number_is in
      let since = l.after in
      Contains-from_any same-equal uid (tombstone_uids history) (remembered_has history uid
      (both _ _ (not_from_false _ (ap is_some none))
      (lt-ltb history.horizon (last_number history.log uid) (omega (arith, since, number))))),
)

pub tombstones_are_ordered : TombstonesAreInOrder
tombstones_are_ordered history = increasing (last_number history.log) (tombstone_uids history)
    (rises-filter (last_number history.log) (is_tombstone history) (touched_uids history.log)
    (touched-rises history.log))

-- ---- tombstones after a removal

module _ (history : BookHistory) (uid : List ℕ) (why : RemovalReason) (sound :
    IsSoundHistory history) (is_live : IsSome (finite.get (live history.log) uid)) where
  abbrev e : BookEvent
  e = event uid (TakesAway why)

  abbrev after : BookHistory
  after = longer history e

  not_remembered : is_tombstone history uid ≡ false
  not_remembered = ap (λ b. not b && nat_lt history.horizon (last_number history.log uid)) is_live

  same_others : filter (others history e) (tombstone_uids history) ≡ tombstone_uids history
  same_others =
      filter_both (others history e) (is_tombstone history) (touched_uids history.log)
      ∙ filter_alike (λ v. is_tombstone history v && not (same_uid v uid)) (is_tombstone history)
      each (touched_uids history.log)
    where
      each : (v : List ℕ) → (is_tombstone history v && not (same_uid v uid)) ≡ is_tombstone history
          v
      each v = elim (same_uid v uid) as (λ b. same_uid v uid ≡ b → (is_tombstone history v && not b)
          ≡ is_tombstone history v) [
            | true ↦ λ here. and-false (is_tombstone history v)
                ∙ sym (ap (is_tombstone history) (same-equal v uid here) ∙ not_remembered)
            | false ↦ λ other. and-true (is_tombstone history v)
          ] refl

  own : is_tombstone after uid ≡ true
  own =
      let within_log = sound.within_log in
      let top = last_here history.log e uid (same_self uid) in
      both _ _
      (not_from_false _ (ap is_some (get-remove text_total (live history.log) uid uid
      ∙ cond-true _ _ _ (same_self uid))))
      (lt-ltb history.horizon (last_number (e ∷ history.log) uid) (omega (arith, within_log, top)))

  all_remembered : tombstone_uids after ≡ tombstone_uids history ++ uid ∷ []
  all_remembered = remembered_longer history e
      ∙ ap (λ us. us ++ filter (is_tombstone after) (uid ∷ [])) same_others
      ∙ ap (λ us. tombstone_uids history ++ us) (cond-true (is_tombstone after uid) (uid ∷ []) []
      own)

  one_longer : length (tombstone_uids after) ≡ length (tombstone_uids history) + 1
  one_longer = ap length all_remembered ∙ length-append (tombstone_uids history) (uid ∷ [])

  -- a tombstone is of another member
  another : (first : List ℕ) (rest : List (List ℕ)) → tombstone_uids history ≡ first ∷ rest
      → same_uid first uid ≡ false
  another first rest tombstones_before = ⊎_elim
      (λ here. absurd (both_ways _ (ap (is_tombstone history) (same-equal first uid here)
      ∙ not_remembered)
      (any_passes (is_tombstone history) first (touched_uids history.log)
      (ap (λ us. has us first) tombstones_before ∙ or_left _ _ (same_self first)))))
      (λ other. other)
      (cases_Bool (same_uid first uid))

  forgets : (uids rest : List (List ℕ)) (first head : List ℕ) → tombstone_uids history ≡ head ∷ rest
      → tombstone_uids after ≡ first ∷ uids → history.keep < length (first ∷ uids)
      → ReplacesOldestTombstone history (with_horizon after (last_number (e ∷ history.log) first))
      uid
  forgets uids rest first head tombstones_before new_named more =
      let all : head ∷ (rest ++ uid ∷ []) ≡ first ∷ uids =
      sym (all_remembered ∙ ap (λ us. us ++ uid ∷ []) tombstones_before) ∙ new_named in
      let same : head ≡ first = cc in
      let source_change : rest ++ uid ∷ [] ≡ uids = cc in
      let many = ap length new_named in
      let one = one_longer in
      let within = sound.within_keep in
      record {
        first = head;
        others = rest;
        tombstones_before = tombstones_before;
        full = omega (arith, many, one, within, more);
        remembered = rest_remembered after first uids new_named ∙ sym source_change;
        horizon = ap (last_number (e ∷ history.log)) (sym same)
            ∙ last_other history.log e head (another head rest tombstones_before);
      }

  drops_oldest : AddsTombstone history (with_event history e) uid
      ⊎ ReplacesOldestTombstone history (with_event history e) uid
  drops_oldest =
      let one = one_longer in
      let within = sound.within_keep in
      let least = sound.keep_least in
      after_event (λ new. AddsTombstone history new uid ⊎ ReplacesOldestTombstone history new uid)
      history e
      (λ few. inl (record {
        room = ⊎_elim (λ le. omega (arith, le, one)) (λ le. absurd (omega (arith, le, one))) few;
        remembered = all_remembered;
        horizon = refl;
      }))
      (λ first uids new_named more. inr (by first uids (tombstone_uids history) refl new_named
      more))
    where
      by : (first : List ℕ) (uids us : List (List ℕ)) → tombstone_uids history ≡ us
          → tombstone_uids after ≡ first ∷ uids → history.keep < length (first ∷ uids)
          → ReplacesOldestTombstone history
          (with_horizon after (last_number (e ∷ history.log) first)) uid
      by first uids [] tombstones_before new_named more =
          let none = ap length tombstones_before in
          let many = ap length new_named in
          let one = one_longer in
          let least = sound.keep_least in
          absurd (omega (arith, none, many, one, least, more))
      by first uids (head ∷ rest) tombstones_before new_named more =
          forgets uids rest first head tombstones_before new_named more

pub removals_drop_the_oldest_tombstone : RemovalsDropOldestTombstone
removals_drop_the_oldest_tombstone = drops_oldest

pub storing_forgets_nothing : StoredCardsKeepHorizon
storing_forgets_nothing history uid card why = refl

-- ---- the calls that remove a card

pub remove_calls_forget : RemoveCallsDropOldestTombstone
remove_calls_forget store name uid expect number source_change all done =
    by_history (finite.get store.books name) refl done
  where
    removed : BookHistory → ℕ → Result (ℕ × BookHistories) Refusal
    removed history n =
        Ok (n, finite.insert store.books name (with_event history (event uid (TakesAway Deletion))))

    by_number : (history : BookHistory) → finite.get store.books name ≡ Some history
        → (given : Result ℕ Refusal) → remove_number store.limits (found_in_history history.log uid)
        expect ≡ given
        → (given >>= removed history) ≡ Ok (number, source_change)
        → DropsByRemoval store.books name uid source_change
    by_number history found (Ok n) given new_named =
        let new = with_event history (event uid (TakesAway Deletion)) in
        subst (DropsByRemoval store.books name uid)
        (ap (λ p. p.1) (same_answer (n, finite.insert store.books name new) (
          number,
          source_change,
        ) new_named))
        (record {
          old = history;
          new = new;
          old_named = found;
          new_named = get-insert_here store.books name new;
          removal = drops_oldest history uid Deletion (all name history found)
              (removed_is_live store.limits (found_in_history history.log uid) expect n given);
        })
    by_number history found (Err refusal) given new_named =
        absurd (no_answer refusal (number, source_change) new_named)

    by_history : (o : Option BookHistory) → finite.get store.books name ≡ o
        → (option_map_or Ok o (Err NoSuchBook) >>= λ history. remove_number store.limits
        (found_in_history history.log uid) expect >>= removed history) ≡ Ok (
          number,
          source_change,
        )
        → DropsByRemoval store.books name uid source_change
    by_history (Some history) found new_named =
        by_number history found (remove_number store.limits (found_in_history history.log uid)
        expect) refl new_named
    by_history None found new_named =
        absurd (no_answer NoSuchBook (number, source_change) new_named)

pub move_calls_forget : MoveCallsDropOldestTombstone
move_calls_forget store from to uid expect moved books all done =
    let takes = moves_transfer_one_card store from to uid expect moved books done in
    let source_change = takes.source_change in
    record {
      old = source_change.old;
      new = source_change.new;
      old_named = source_change.old_named;
      new_named = source_change.new_named;
      removal = subst (λ (new : BookHistory). AddsTombstone source_change.old new uid
          ⊎ ReplacesOldestTombstone source_change.old new uid) (sym source_change.extended_by)
          (drops_oldest source_change.old uid MoveOut (all from source_change.old
          source_change.old_named) (ap is_some takes.card));
    }
