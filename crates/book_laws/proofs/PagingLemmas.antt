-- How many members are due, and how many pages are truncated.
use Rattle.std.proofs.Common.{◌≡◌, ℕ, zero, suc, ◌+◌, ◌-◌, ◌*◌, ◌<◌, ◌≤◌, max, Bool, true, false}
use Rattle.std.proofs.Common.{cond, not, ◌||◌, ◌&&◌, List, [], ◌∷◌, ◌++◌, length, map, filter, take}
use Rattle.std.proofs.Common.{drop, get_or, Some, is_some, nat_lt, refl, sym, ap, ◌∙◌, subst, arith}
use Rattle.std.proofs.Common.{length-append}
use Rattle.std.specs.List.{AllByRecursion}
use Rattle.std.specs.List.Sorted.{IsStrictlyIncreasing}
use Rattle.std.specs.FinMap as finite
use Rattle.std.proofs.lemmas.Bool.{cond-true, cond-false, and_parts, not-true, ltb-true, ltb-false}
use Rattle.std.proofs.lemmas.Bool.{lt-ltb, le-ltb, false≢true}
use Rattle.std.proofs.lemmas.Bool.Decides.{nat_tests}
use Rattle.std.proofs.lemmas.List.{take_all, length-take, length-drop, length-map}
use Rattle.std.proofs.lemmas.List.Elements.{filter-append, filter_passes, All-get_or}
use Rattle.book_model.specs.declared.token.Mark.{Mark}
use Rattle.book_model.specs.declared.token.Token.{Token}
use Rattle.book_laws.specs.EventLogs.{BookEvent, same_uid, live, last_number, touched_uids}
use Rattle.book_model.specs.Books.{LiveCards}
use Rattle.book_model.specs.Pages.{ReportAnswer, mark_after}
use Rattle.book_laws.specs.Reports.{is_due_member, due, entry_of, truncated_log_page}
use Rattle.book_laws.specs.Reports.{complete_log_page, report}
use Rattle.book_laws.specs.StoreHistories.{BookHistory}
use Rattle.book_model.specs.Devices.{copy_after_entries, copy_before_page, device_after_page}
use Rattle.book_laws.specs.DeviceConsistency.{Agrees}
use Rattle.book_laws.specs.DeviceLaws.{DueMembersAreInOrder, EntriesAreFirstDue, PageSizesAreExact}
use Rattle.book_laws.specs.Paging.{SyncState, mark_of_token, page_for_device, sync_after_events}
use Rattle.book_laws.specs.Paging.{next_report, sync_after_turn, due_count, truncated_page_count}
use Rattle.book_laws.specs.Paging.{events_until_last_truncated, device_after_pages}
use Rattle.book_laws.specs.PagingLaws.{EventsAddAtMostOneDue, TruncatedPagesLeaveRest}
use Rattle.book_laws.specs.PagingLaws.{TruncatedPagesLeaveFewer, LastPagesLeaveNoneDue}
use Rattle.book_laws.specs.PagingLaws.{TruncatedPagesAreBounded, QuietBooksSyncFully}
use Rattle.book_laws.specs.PagingLaws.{QuietDevicesCatchUp}
use Rattle.book_laws.proofs.HistoryLemmas.{Rises, last-le, last_other, get-changed}
use Rattle.book_laws.proofs.DueLemmas.{due-rises}
use Rattle.book_laws.proofs.DeviceLemmas.{whole_page_keeps_copy, nobody_due_is_complete, ready}
use Rattle.book_model.specs.Counting.{one_if}

-- ---- which members a report has

at_place : (P : List ℕ → Type 0) (xs : List (List ℕ)) (n : ℕ) → n < length xs → AllByRecursion P xs
    → P (get_or xs n [])
at_place P [] n l a = absurd (omega arith)
at_place P (x ∷ xs) zero l a = a.0
at_place P (x ∷ xs) (suc n) l a = at_place P xs n (omega arith) a.1

module _ (f : List ℕ → ℕ) where
  first_above : (n : ℕ) (xs : List (List ℕ)) → AllByRecursion (λ v. n < f v) xs
      → 0 < length (map f xs) → n < get_or (map f xs) 0 0
  first_above n [] a l = absurd (omega arith)
  first_above n (x ∷ xs) a l = a.0

  rises_at : (xs : List (List ℕ)) → Rises f xs → (i : ℕ) → suc i < length (map f xs)
      → get_or (map f xs) i 0 < get_or (map f xs) (suc i) 0
  rises_at [] r i l = absurd (omega arith)
  rises_at (x ∷ xs) r zero l = first_above (f x) xs r.0 (omega arith)
  rises_at (x ∷ xs) r (suc i) l = rises_at xs r.1 i (omega arith)

  -- by the number of each, the list rises strictly
  pub increasing : (xs : List (List ℕ)) → Rises f xs → IsStrictlyIncreasing (map f xs)
  increasing xs r i l =
      let next : i + 1 ≡ suc i = omega arith in
      subst (λ j. get_or (map f xs) i 0 < get_or (map f xs) j 0) (sym next)
      (rises_at xs r i (omega (arith, l)))

pub due_rises : DueMembersAreInOrder
due_rises h mark = increasing (last_number h) (due h mark) (due-rises h mark)

pub entries_are_first_due : EntriesAreFirstDue
entries_are_first_due h mark k =
    elim (nat_lt k (length (due h mark))) as (λ b. nat_lt k (length (due h mark)) ≡ b
    → (cond b (truncated_log_page h mark k) (complete_log_page h mark)).entries
    ≡ map (entry_of h) (take k (due h mark))) [
      | true ↦ λ more. refl
      | false ↦ λ all. ap (map (entry_of h)) (sym (take_all k (due h mark) (ltb-false _ _ all)))
    ] refl

pub pages_fit : PageSizesAreExact
pages_fit h mark k = ap length (entries_are_first_due h mark k)
    ∙ length-map (take k (due h mark)) (entry_of h) ∙ length-take k (due h mark)

-- ---- an event

few_pass : {A : Type 0} (p q r : A → Bool) → ((v : A) → p v ≡ true → q v ≡ true → r v ≡ true)
    → (xs : List A) → length (filter q (filter p xs)) ≤ length (filter r xs)
few_pass p q r h [] = omega arith
few_pass p q r h (x ∷ xs) =
    let rest = few_pass p q r h xs in
    elim (p x) as (λ a. p x ≡ a → length (filter q (cond a (x ∷ filter p xs) (filter p xs))) ≤
    length (cond (r x) (x ∷ filter r xs) (filter r xs))) [
      | false ↦ λ _. or_one_more rest
      | true ↦ λ a. elim (q x) as (λ b. q x ≡ b
          → length (cond b (x ∷ filter q (filter p xs)) (filter q (filter p xs))) ≤ length
          (cond (r x) (x ∷ filter r xs) (filter r xs))) [
            | false ↦ λ _. or_one_more rest
            | true ↦ λ b. subst (λ t. suc (length (filter q (filter p xs))) ≤ length
                (cond t (x ∷ filter r xs) (filter r xs))) (sym (h x a b)) (omega (arith, rest))
          ] refl
    ] refl
  where
    or_one_more : {n : ℕ} → n ≤ length (filter r xs)
        → n ≤ length (cond (r x) (x ∷ filter r xs) (filter r xs))
    or_one_more {n} l = elim (r x) as (λ t. n ≤ length (cond t (x ∷ filter r xs) (filter r xs)))
        [ true ↦ omega (arith, l) | false ↦ l ]

one_at_most : {A : Type 0} (p : A → Bool) (x : A) → length (filter p (x ∷ [])) ≤ 1
one_at_most p x = elim (p x) as (λ t. length (cond t (x ∷ []) []) ≤ 1) [
  | true ↦ omega arith
  | false ↦ omega arith
]

-- no other member becomes due
pub events_add_at_most_one : EventsAddAtMostOneDue
events_add_at_most_one h e mark =
    let others = filter (λ v. not (same_uid v e.uid)) (touched_uids h) in
    let split = ap length (filter-append (is_due_member (e ∷ h) mark) others (e.uid ∷ []))
    ∙ length-append (filter (is_due_member (e ∷ h) mark) others)
    (filter (is_due_member (e ∷ h) mark) (e.uid ∷ [])) in
    let few = few_pass (λ v. not (same_uid v e.uid)) (is_due_member (e ∷ h) mark)
    (is_due_member h mark) (λ v other d. sym (still v (not-true _ other))
    ∙ d) (touched_uids h) in
    let one = one_at_most (is_due_member (e ∷ h) mark) e.uid in
    omega (arith, split, few, one)
  where
    still : (v : List ℕ) → same_uid v e.uid ≡ false → is_due_member (e ∷ h) mark v
        ≡ is_due_member h mark v
    still v other =
        ap (λ n. nat_lt mark.at n && (is_some (finite.get (live (e ∷ h)) v) || nat_lt mark.base n))
        (last_other h e v other)
        ∙ ap (λ o. nat_lt mark.at (last_number h v)
        && (is_some o || nat_lt mark.base (last_number h v))) (get-changed (live h) e.uid v
        e.change (length h + 1) other)

pub events_add : (h : List BookEvent) (events : List BookEvent) (mark : Mark)
    → length (due (events ++ h) mark) ≤ length (due h mark) + length events
events_add h [] mark = omega arith
events_add h (e ∷ events) mark = let one = events_add_at_most_one (events ++ h) e mark in let rest =
    events_add h events mark in omega (arith, one, rest)

-- ---- a page

tests : (at base m n : ℕ) (b : Bool) → at < m → (nat_lt m n && (b || nat_lt (max m base) n))
    ≡ (nat_lt m n && (nat_lt at n && (b || nat_lt base n)))
tests at base m n b l = grind (arith, nat_tests)

filter_both : {A : Type 0} (p q r : A → Bool) → ((v : A) → r v ≡ (q v && p v)) → (xs : List A)
    → filter r xs ≡ filter q (filter p xs)
filter_both p q r h [] = refl
filter_both p q r h (x ∷ xs) =
    ap (λ t. cond t (x ∷ filter r xs) (filter r xs)) (h x)
    ∙ elim (p x) as (λ a. cond (q x && a) (x ∷ filter r xs) (filter r xs)
    ≡ filter q (cond a (x ∷ filter p xs) (filter p xs))) [
      | true ↦ elim (q x) as (λ b. cond (b && true) (x ∷ filter r xs) (filter r xs)
          ≡ cond b (x ∷ filter q (filter p xs)) (filter q (filter p xs))) [
            | true ↦ ap (λ ys. x ∷ ys) (filter_both p q r h xs)
            | false ↦ filter_both p q r h xs
          ]
      | false ↦ elim (q x) as (λ b. cond (b && false) (x ∷ filter r xs) (filter r xs)
          ≡ filter q (filter p xs)) [
            | true ↦ filter_both p q r h xs
            | false ↦ filter_both p q r h xs
          ]
    ]

-- in a list that rises by f, the elements above the one at an index are those after it
module _ (f : List ℕ → ℕ) where
  all_above : (m : ℕ) (xs : List (List ℕ)) → AllByRecursion (λ v. m < f v) xs
      → filter (λ v. nat_lt m (f v)) xs ≡ xs
  all_above m [] a = refl
  all_above m (x ∷ xs) a = cond-true _ _ _ (lt-ltb _ _ a.0) ∙ ap (λ ys. x ∷ ys) (all_above m xs a.1)

  rest_after : (xs : List (List ℕ)) (n : ℕ) → n < length xs → Rises f xs
      → filter (λ v. nat_lt (f (get_or xs n [])) (f v)) xs ≡ drop (suc n) xs
  rest_after [] n l r = absurd (omega arith)
  rest_after (x ∷ xs) zero l r = cond-false _ _ _ (le-ltb (f x) (f x) (omega arith))
      ∙ all_above (f x) xs r.0
  rest_after (x ∷ xs) (suc n) l r =
      let below : f x < f (get_or xs n []) = at_place (λ v. f x < f v) xs n (omega arith) r.0 in
      cond-false _ _ _ (le-ltb (f (get_or xs n [])) (f x) (omega (arith, below)))
      ∙ rest_after xs n (omega arith) r.1

-- after a truncated page the members after its last entry are due
cut_leaves : (h : List BookEvent) (mark : Mark) (k : ℕ) → 0 < k → k < length (due h mark)
    → due h (mark_after mark (last_number h (get_or (due h mark) (k - 1) []))) ≡ drop k (due h mark)
cut_leaves h mark zero some more = absurd (omega arith)
cut_leaves h mark (suc n) some more =
    ap (λ m. due h (mark_after mark (last_number h (get_or (due h mark) m [])))) back
    ∙ filter_both (is_due_member h mark) (λ v. nat_lt (last_number h edge) (last_number h v))
    (is_due_member h (mark_after mark (last_number h edge))) (λ v. tests mark.at mark.base
    (last_number h edge) (last_number h v) (is_some (finite.get (live h) v)) since)
    (touched_uids h)
    ∙ rest_after (last_number h) (due h mark) n (omega arith) (due-rises h mark)
  where
    back : suc n - 1 ≡ n
    back = omega arith

    edge : List ℕ
    edge = get_or (due h mark) n []

    since : mark.at < last_number h edge
    since = ltb-true _ _ (and_parts _ _ (All-get_or (λ v. is_due_member h mark v ≡ true)
        (due h mark) n [] (omega arith) (filter_passes (is_due_member h mark) (touched_uids h)))).0

-- at a mark after all events no member is due
none_newer : (h : List BookEvent) (uids : List (List ℕ))
    → filter (is_due_member h (record { at = length h; base = length h })) uids ≡ []
none_newer h [] = refl
none_newer h (uid ∷ uids) = cond-false _ _ _
    (ap (λ t. t && (is_some (finite.get (live h) uid) || nat_lt (length h) (last_number h uid)))
    (le-ltb _ _ (last-le h uid))) ∙ none_newer h uids

-- either the page is truncated, or it lists all due members
module _ (h : List BookEvent) (mark : Mark) (k : ℕ) where
  cut_where : (report h mark k).truncated ≡ true → k < length (due h mark)
  cut_where = elim (nat_lt k (length (due h mark))) as (λ b. nat_lt k (length (due h mark)) ≡ b
      → (cond b (truncated_log_page h mark k) (complete_log_page h mark)).truncated ≡ true
      → k < length (due h mark)) [
        | true ↦ λ more t. ltb-true _ _ more
        | false ↦ λ all t. absurd (false≢true t)
      ] refl

  whole_where : (report h mark k).truncated ≡ false → nat_lt k (length (due h mark)) ≡ false
  whole_where = elim (nat_lt k (length (due h mark))) as
      (λ b. (cond b (truncated_log_page h mark k) (complete_log_page h mark)).truncated ≡ false
      → b ≡ false) [
        | true ↦ λ t. absurd (false≢true (sym t))
        | false ↦ λ t. refl
      ]

pub truncated_pages_leave_rest : TruncatedPagesLeaveRest
truncated_pages_leave_rest h mark k some t =
    let more = cut_where h mark k t in
    ap (λ (a : ReportAnswer). due h a.mark) (cond-true (nat_lt k (length (due h mark)))
    (truncated_log_page h mark k) (complete_log_page h mark) (lt-ltb _ _ more))
    ∙ cut_leaves h mark k some more

pub truncated_pages_leave_fewer : TruncatedPagesLeaveFewer
truncated_pages_leave_fewer h mark k some t =
    let more = cut_where h mark k t in
    let rest = ap length (truncated_pages_leave_rest h mark k some t)
    ∙ length-drop k (due h mark) in
    omega (arith, more, rest)

pub last_pages_leave_nobody : LastPagesLeaveNoneDue
last_pages_leave_nobody h mark k t =
    ap (λ (a : ReportAnswer). due h a.mark) (cond-false (nat_lt k (length (due h mark)))
    (truncated_log_page h mark k) (complete_log_page h mark) (whole_where h mark k t))
    ∙ none_newer h (touched_uids h)

-- ---- turns

times_next : (n k : ℕ) → (1 + n) * k ≡ k + n * k
times_next n k = search arith

-- one more page was truncated, and it listed k of the due members
one_more : (k t before after w : ℕ) → after + k ≡ before → k < before → (0 < t → t * k < after + w)
    → (1 + t) * k < before + w
one_more k zero before after w took more later = let one = times_next 0 k in let none : 0 * k ≡ 0 =
    search arith in omega (arith, one, none, more)
one_more k (suc t) before after w took more later = let next = times_next (suc t) k in let rest =
    later (omega arith) in omega (arith, next, rest, took)

module _ (k : ℕ) (some : 0 < k) where
  -- after the first ask the rest of the turns adds what it adds
  first_bounded : (state : SyncState) (events : List BookEvent) (turns : List (List BookEvent))
      → (0 < truncated_page_count k (sync_after_turn k state events) turns
      → truncated_page_count k (sync_after_turn k state events) turns * k < due_count
      (sync_after_turn k state events) + events_until_last_truncated k
      (sync_after_turn k state events) turns)
      → 0 < truncated_page_count k state (events ∷ turns)
      → truncated_page_count k state (events ∷ turns) * k < due_count
      (sync_after_events state events) + events_until_last_truncated k
      (sync_after_turn k state events) turns
  first_bounded state events turns later =
      elim (next_report k (sync_after_events state events)).truncated as
      (λ b. (next_report k (sync_after_events state events)).truncated ≡ b → 0 < one_if b + t
      → (one_if b + t) * k < due_count (sync_after_events state events) + w) [
        | true ↦ λ cut _. one_more k t (due_count (sync_after_events state events))
            (due_count (sync_after_turn k state events)) w
            (truncated_pages_leave_fewer (events ++ state.log) state.mark k some cut)
            (cut_where (events ++ state.log) state.mark k cut) later
        | false ↦ λ all more.
            let none = ap length (last_pages_leave_nobody (events ++ state.log) state.mark k all) in
            let same : 0 + t ≡ t = omega arith in
            let rest = later (omega (arith, more)) in
            subst (λ n. n * k < due_count (sync_after_events state events) + w) (sym same)
            (omega (arith, none, rest))
      ] refl
    where
      t : ℕ
      t = truncated_page_count k (sync_after_turn k state events) turns

      w : ℕ
      w = events_until_last_truncated k (sync_after_turn k state events) turns

  turns_bounded : (turns : List (List BookEvent)) (state : SyncState)
      → 0 < truncated_page_count k state turns → truncated_page_count k state turns * k < due_count
      state + events_until_last_truncated k state turns
  turns_bounded [] state more = absurd (omega arith)
  turns_bounded (events ∷ turns) state more =
      let first = first_bounded state events turns
      (turns_bounded turns (sync_after_turn k state events)) more in
      let add = events_add state.log events state.mark in
      let up_to : events_until_last_truncated k state (events ∷ turns)
      ≡ length events + events_until_last_truncated k (sync_after_turn k state events) turns =
      cond-true (nat_lt 0 (truncated_page_count k state (events ∷ turns))) _ _
      (lt-ltb _ _ more) in
      omega (arith, first, add, up_to)

pub truncated_pages_are_bounded : TruncatedPagesAreBounded
truncated_pages_are_bounded k state events turns some more =
    first_bounded k some state events turns
    (turns_bounded k some turns (sync_after_turn k state events)) more

-- a turn without events leaves k fewer, or none
quiet_turn : (k : ℕ) (state : SyncState) (n : ℕ) → 0 < k → due_count state ≤ (1 + n) * k
    → due_count (sync_after_turn k state []) ≤ n * k
quiet_turn k state n some le =
    elim (next_report k state).truncated as (λ b. (next_report k state).truncated ≡ b
    → due_count (sync_after_turn k state []) ≤ n * k) [
      | true ↦ λ cut. let fewer = truncated_pages_leave_fewer state.log state.mark k some cut in
          let next = times_next n k in omega (arith, fewer, next, le)
      | false ↦ λ all. let none = ap length (last_pages_leave_nobody state.log state.mark k all) in
          omega (arith, none)
    ] refl

none_left : (uids : List (List ℕ)) → length uids ≤ 0 → uids ≡ []
none_left [] le = refl
none_left (uid ∷ uids) le = absurd (omega (arith, le))

pub quiet_books_sync_fully : QuietBooksSyncFully
quiet_books_sync_fully k state zero some le =
    none_left (due state.log state.mark) (let none : 0 * k ≡ 0 = search arith in
    omega (arith, none, le))
quiet_books_sync_fully k state (suc n) some le =
    quiet_books_sync_fully k (sync_after_turn k state []) n some
    (quiet_turn k state n some (let same : suc n ≡ 1 + n = omega arith in
    subst (λ m. due_count state ≤ m * k) same le))

-- a device with a token
caught_up : (k : ℕ) (history : BookHistory) (n : ℕ) (book : List ℕ) (copy : LiveCards) (token :
    Token) → 0 < k → Agrees copy token.mark history.log
    → length (due history.log token.mark) ≤ n * k
    → (device_after_pages k history n (record {
      book = book;
      copy = copy;
      token = Some token;
    })).copy ≡ live history.log
caught_up k history zero book copy token some agrees le =
    nobody_due_is_complete copy token.mark history.log agrees
    (none_left (due history.log token.mark) (let none : 0 * k ≡ 0 = search arith in
    omega (arith, none, le)))
caught_up k history (suc n) book copy token some agrees le =
    let next : Token = record {
      book = history.id;
      mark = (report history.log token.mark k).mark;
    } in
    caught_up k history n book (copy_after_entries copy (report history.log token.mark k).entries)
    next some (whole_page_keeps_copy copy token.mark history.log k some agrees)
    (quiet_turn k (record { log = history.log; mark = token.mark }) n some (let same :
    suc n ≡ 1 + n = omega arith in subst (λ m. length (due history.log token.mark) ≤ m * k) same
    le))

pub quiet_devices_catch_up : QuietDevicesCatchUp
quiet_devices_catch_up histories device history k zero some pages right found le =
    absurd (omega arith)
quiet_devices_catch_up histories device history k (suc n) some pages right found le =
    let mark = mark_of_token history.log device.token in
    let next : Token = record { book = history.id; mark = (report history.log mark k).mark } in
    caught_up k history n device.book (device_after_page device (page_for_device history device
    k)).copy next some
    (whole_page_keeps_copy (copy_before_page device.token device.copy) mark history.log k some
    (ready histories device history found right))
    (quiet_turn k (record { log = history.log; mark = mark }) n some (let same :
    suc n ≡ 1 + n = omega arith in subst (λ m. length (due history.log mark) ≤ m * k) same le))
