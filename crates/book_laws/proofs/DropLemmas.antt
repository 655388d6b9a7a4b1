-- The tombstones that a book drops by itself, in the rows and in the history.
use Rattle.std.proofs.Common.{◌≡◌, ℕ, ◌+◌, ◌<◌, ◌≤◌, Bool, true, false, cond, not, ◌&&◌, ◌||◌, inl}
use Rattle.std.proofs.Common.{inr, List, [], ◌∷◌, length, map, filter, Option, Some, None, is_some}
use Rattle.std.proofs.Common.{nat_lt, nat_le, refl, sym, ap, ◌∙◌, subst, ⊎_elim, arith}
use Rattle.std.specs.List.{AllByRecursion}
use Rattle.std.specs.FinMap as finite
use Rattle.std.specs.FinMap.Entries.{find}
use Rattle.std.proofs.lemmas.Bool.{cases_Bool, or_cases, or_right, and_parts, cond-true, cond-false}
use Rattle.std.proofs.lemmas.Bool.{lt-ltb, ltb-true}
use Rattle.std.proofs.lemmas.List.{nil_from_length}
use Rattle.std.proofs.lemmas.Map.Views.{any-filter_same}
use Rattle.std.proofs.lemmas.Option.{same_Some}
use Rattle.base_types.specs.TextMaps.{text_cmp}
use Rattle.book_model.specs.declared.answers.Stored.{Stored}
use Rattle.book_model.specs.declared.change.Change.{Change}
use Rattle.book_model.specs.declared.change.Change.TheVariants.{Stores, TakesAway}
use Rattle.book_model.specs.declared.row.Row.{Row}
use Rattle.book_model.specs.Books.{Book}
use Rattle.book_model.specs.BookChanges.{least, book_with_row, oldest_tombstone, forced_horizon}
use Rattle.book_model.specs.BookChanges.{book_after_drop, book_after_change}
use Rattle.book_model.specs.Counting.{counts_after_change}
use Rattle.book_model.specs.BookQueries.{is_tombstone_after, tombstone_count}
use Rattle.book_model.proofs.BasicLemmas.{is_some-map}
use Rattle.book_model.proofs.LiveCardLemmas.{Members}
use Rattle.base_types.proofs.TextLemmas.{same_self, same-equal}
use Rattle.book_laws.specs.LogCounts.{counts_of_log}
use Rattle.book_laws.specs.EventLogs.{BookEvent, same_uid, live, last_number, touched_uids}
use Rattle.book_laws.specs.LogRows.{is_row_of_log, rows_of_log}
use Rattle.book_laws.specs.StoreHistories.{BookHistory, book_of_history, is_tombstone}
use Rattle.book_laws.specs.StoreHistories.{tombstone_uids}
use Rattle.book_laws.specs.HistoryChanges.{event, with_horizon}
use Rattle.book_laws.specs.HistorySteps.{horizon_past_first, with_event}
use Rattle.book_laws.proofs.DueLemmas.{any_passes, above_first}
use Rattle.book_laws.proofs.FilterLemmas.{IsAmong, least_is}
use Rattle.book_laws.proofs.HistoryLemmas.{has, has-touched}
use Rattle.book_laws.proofs.PassingRows.{passing_rows, book_forgotten}
use Rattle.book_laws.proofs.RememberLemmas.{longer, left_first}
use Rattle.book_laws.proofs.ReportLemmas.{each_found}
use Rattle.book_laws.proofs.RowLemmas.{row_at, row_known, get-kept_rows, get-all_rows, writes_row}

-- ---- tombstones, by the rows

module _ (history : BookHistory) where
  removed_row : (uid : List ℕ) → is_tombstone_after history.horizon (row_at history.log uid)
      ≡ is_tombstone history uid
  removed_row uid = ap (λ b. not b && nat_lt history.horizon (last_number history.log uid))
      (is_some-map (λ (s : Stored). s.card) (finite.get (live history.log) uid))

  removed_after : (uid : List ℕ) → 0 < last_number history.log uid
      → (is_row_of_log history.log history.horizon uid && is_tombstone_after history.horizon
      (row_at history.log uid)) ≡ is_tombstone history uid
  removed_after uid some =
      ap (λ b. is_row_of_log history.log history.horizon uid && b) (removed_row uid)
      ∙ elim (is_some (finite.get (live history.log) uid)) as
      (λ b. ((b || nat_lt history.horizon (last_number history.log uid))
      && (not b && nat_lt history.horizon (last_number history.log uid)))
      ≡ (not b && nat_lt history.horizon (last_number history.log uid))) [
        | true ↦ refl
        | false ↦ elim (nat_lt history.horizon (last_number history.log uid)) as (λ b. (b && b) ≡ b)
            [ true ↦ refl | false ↦ refl ]
      ]

  pub remembered_is : tombstone_count (book_of_history history) ≡ length (tombstone_uids history)
  remembered_is = passing_rows history.log history.horizon (is_tombstone_after history.horizon)
      (is_tombstone history) removed_after

  -- a tombstone is in the list, and has a row
  pub remembered_has : (uid : List ℕ) → is_tombstone history uid ≡ true
      → has (tombstone_uids history) uid ≡ true
  remembered_has uid r =
      let since : history.horizon < last_number history.log uid =
      ltb-true history.horizon (last_number history.log uid)
      (and_parts (not (is_some (finite.get (live history.log) uid)))
      (nat_lt history.horizon (last_number history.log uid)) r).1 in
      any-filter_same (same_uid uid) (is_tombstone history) true
      (λ v is. subst (λ (u : List ℕ). is_tombstone history u ≡ true) (same-equal uid v is) r)
      (touched_uids history.log)
      ∙ has-touched history.log uid (omega (arith, since))

  remembered_row : (uid : List ℕ) → history.horizon < last_number history.log uid
      → finite.get (rows_of_log history.log history.horizon) uid ≡ Some (row_at history.log uid)
  remembered_row uid since =
      get-kept_rows history.log history.horizon uid
      ∙ cond-true (is_row_of_log history.log history.horizon uid) _ _
      (or_right (is_some (finite.get (live history.log) uid)) _ (lt-ltb _ _ since))
      ∙ get-all_rows history.log uid ∙ cond-true (nat_lt 0 (last_number history.log uid)) _ _
      (lt-ltb _ _ (omega (arith, since)))

-- ---- the oldest tombstone

-- the numbers of the rows that pass a test
abbrev pub numbers : (Row → Bool) → Members → List ℕ
numbers test es = map (λ (e : List ℕ × Row). e.1.changed) (filter (λ (e : List ℕ × Row). test e.1)
    es)

module _ (test : Row → Bool) (n : ℕ) where
  all_from : (es : Members) → AllByRecursion (λ (e : List ℕ × Row). test e.1 ≡ true
      → n ≤ e.1.changed) es → AllByRecursion (λ m. n ≤ m) (numbers test es)
  all_from [] a = tt
  all_from (e ∷ es) a =
      let rest = all_from es a.1 in
      elim (test e.1) as (λ b. test e.1 ≡ b
      → AllByRecursion (λ m. n ≤ m) (map (λ (d : List ℕ × Row). d.1.changed)
      (cond b (e ∷ filter (λ (d : List ℕ × Row). test d.1) es)
      (filter (λ (d : List ℕ × Row). test d.1) es)))) [
        | true ↦ λ passes. (a.0 passes, rest)
        | false ↦ λ fails. rest
      ] refl

  among_found : (uid : List ℕ) (row : Row) → test row ≡ true → row.changed ≡ n → (es : Members)
      → find text_cmp uid es ≡ Some row → IsAmong n (numbers test es)
  among_found uid row passes is [] f = absurd (none f)
    where
      none : ◌≡◌ {A = Option Row} None (Some row) → ⊥
      none e = cc
  among_found uid row passes is (e ∷ es) f = ⊎_elim
      (λ here.
      let own : e.1 ≡ row = same_Some e.1 row (sym (cond-true _ _ _ here) ∙ f) in
      subst (λ (es : Members). IsAmong n (map (λ (d : List ℕ × Row). d.1.changed) es))
      (sym (cond-true (test e.1) (e ∷ filter (λ (d : List ℕ × Row). test d.1) es)
      (filter (λ (d : List ℕ × Row). test d.1) es) (ap test own ∙ passes)))
      (inl (ap (λ (r : Row). r.changed) own ∙ is)))
      (λ other.
      let rest = among_found uid row passes is es (sym (cond-false _ _ _ other) ∙ f) in
      elim (test e.1) as (λ b. IsAmong n (map (λ (d : List ℕ × Row). d.1.changed)
      (cond b (e ∷ filter (λ (d : List ℕ × Row). test d.1) es)
      (filter (λ (d : List ℕ × Row). test d.1) es)))) [ true ↦ inr rest | false ↦ rest ])
      (cases_Bool (same_uid uid e.0))

-- the number of the first tombstone
abbrev first_of : BookHistory → List (List ℕ) → Option ℕ
first_of history [] = None
first_of history (uid ∷ uids) = Some (last_number history.log uid)

module _ (history : BookHistory) where
  abbrev es : Members
  es = finite.entries (rows_of_log history.log history.horizon)

  test : Row → Bool
  test = is_tombstone_after history.horizon

  none_first : tombstone_uids history ≡ [] → oldest_tombstone (book_of_history history) ≡ None
  none_first is =
      let none : filter (λ (e : List ℕ × Row). is_tombstone_after history.horizon e.1) es ≡ [] =
      nil_from_length _ (remembered_is history ∙ ap length is) in
      ap (λ (ms : Members). least (map (λ (e : List ℕ × Row). e.1.changed) ms)) none

  some_first : (uid : List ℕ) (uids : List (List ℕ)) → tombstone_uids history ≡ uid ∷ uids
      → oldest_tombstone (book_of_history history) ≡ Some (last_number history.log uid)
  some_first uid uids is =
      let n = last_number history.log uid in
      let l = left_first history uid uids is in
      let members = rows_of_log history.log history.horizon in
      let known : is_tombstone history uid ≡ true =
      any_passes (is_tombstone history) uid (touched_uids history.log) (ap (λ us. has us uid) is
      ∙ here) in
      least_is n (numbers (is_tombstone_after history.horizon) es)
      (all_from (is_tombstone_after history.horizon) n es
      (all_low members (λ e at passes.
      let row = row_known history.log history.horizon e.0 e.1 at in
      let also : is_tombstone history e.0 ≡ true = sym (removed_row history e.0)
      ∙ ap (is_tombstone_after history.horizon) (sym row.0) ∙ passes in
      let number = ap (λ (r : Row). r.changed) row.0 in
      let low = no_earlier e.0 l.later (ap (λ us. has us e.0) (sym is)
      ∙ remembered_has history e.0 also) in
      omega (arith, number, low))))
      (among_found (is_tombstone_after history.horizon) n uid (row_at history.log uid)
      (removed_row history uid ∙ known) refl es
      (sym (finite.get-entries members uid) ∙ remembered_row history uid l.above))
    where
      here : has (uid ∷ uids) uid ≡ true
      here = ap (λ b. b || has uids uid) (same_self uid)

      no_earlier : (v : List ℕ) → AllByRecursion (λ v. last_number history.log uid < last_number
          history.log v) uids → has (uid ∷ uids) v ≡ true
          → last_number history.log uid ≤ last_number history.log v
      no_earlier v later h = ⊎_elim
          (λ first. let same = ap (last_number history.log) (same-equal v uid first) in
          omega (arith, same))
          (λ rest. let less = above_first (last_number history.log) v (last_number history.log uid)
          uids later rest in omega (arith, less))
          (or_cases _ _ h)

      all_low : (m : finite.FinMap text_cmp Row) → ((e : List ℕ × Row) → finite.get m e.0 ≡ Some e.1
          → is_tombstone_after history.horizon e.1 ≡ true
          → last_number history.log uid ≤ e.1.changed)
          → AllByRecursion (λ (e : List ℕ × Row). is_tombstone_after history.horizon e.1 ≡ true
          → last_number history.log uid ≤ e.1.changed) (finite.entries m)
      all_low m each = by_entry (finite.entries m) (each_found m)
        where
          by_entry : (ms : Members) → AllByRecursion (λ (e : List ℕ × Row). finite.get m e.0
              ≡ Some e.1) ms → AllByRecursion (λ (e : List ℕ × Row). is_tombstone_after
              history.horizon e.1 ≡ true → last_number history.log uid ≤ e.1.changed) ms
          by_entry [] a = tt
          by_entry (e ∷ ms) a = (each e a.0, by_entry ms a.1)

  first_is : oldest_tombstone (book_of_history history) ≡ first_of history (tombstone_uids history)
  first_is = by (tombstone_uids history) refl
    where
      by : (us : List (List ℕ)) → tombstone_uids history ≡ us
          → oldest_tombstone (book_of_history history) ≡ first_of history us
      by [] is = none_first is
      by (uid ∷ uids) is = some_first uid uids is

-- ---- an event

rows_longer : (history : BookHistory) (e : BookEvent) → history.horizon ≤ length history.log
    → book_of_history (longer history e) ≡ book_with_row (book_of_history history) e.uid e.change
rows_longer history e within_log =
    let B : ℕ → finite.FinMap text_cmp Row → Book = λ n members. record {
      id = history.id;
      number = n;
      horizon = history.horizon;
      keep = history.keep;
      counts = counts_after_change e.change (counts_of_log history.log);
      members = members;
      imports = history.imports;
    } in
    let more : length (e ∷ history.log) ≡ length history.log + 1 = omega arith in
    ap (λ n. B n (rows_of_log (e ∷ history.log) history.horizon)) more
    ∙ ap (B (length history.log + 1)) (writes_row history.log e history.horizon within_log)

-- the rows drop what the history drops
dropped : (history : BookHistory) (us : List (List ℕ)) → tombstone_uids history ≡ us
    → book_of_history (with_horizon history (horizon_past_first history us))
    ≡ book_after_drop (book_of_history history) (first_of history us)
dropped history [] is = refl
dropped history (uid ∷ uids) is = let above = (left_first history uid uids is).above in
    book_forgotten history (last_number history.log uid) (omega (arith, above))

pub book_of-with_event : (history : BookHistory) (e : BookEvent)
    → history.horizon ≤ length history.log → book_of_history (with_event history e)
    ≡ book_after_change (book_of_history history) e.uid e.change
book_of-with_event history e within_log =
    by_change e.uid e.change ∙ ap (λ (book : Book). book_after_drop book
    (forced_horizon e.change book)) (rows_longer history e within_log)
  where
    by_change : (uid : List ℕ) (change : Change)
        → book_of_history (with_event history (event uid change))
        ≡ book_after_drop (book_of_history (longer history (event uid change)))
        (forced_horizon change (book_of_history (longer history (event uid change))))
    by_change uid (Stores card why) = refl
    by_change uid (TakesAway why) =
        by_test (nat_le (length (tombstone_uids after)) history.keep)
        ∙ sym (ap (λ n. book_after_drop (book_of_history after) (cond (nat_le n history.keep) None
        (oldest_tombstone (book_of_history after)))) (remembered_is after)
        ∙ ap (λ (o : Option ℕ). book_after_drop (book_of_history after)
        (cond (nat_le (length (tombstone_uids after)) history.keep) None o)) (first_is after))
      where
        after : BookHistory
        after = longer history (event uid (TakesAway why))

        by_test : (b : Bool) → book_of_history
            (with_horizon after (cond b history.horizon
            (horizon_past_first after (tombstone_uids after)))) ≡ book_after_drop
            (book_of_history after) (cond b None (first_of after (tombstone_uids after)))
        by_test true = refl
        by_test false = dropped after (tombstone_uids after) refl
