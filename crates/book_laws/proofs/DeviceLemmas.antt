-- A consistent copy stays consistent through events and pages. Given here: inductions over the log
-- (`never_live`) and over the entries of a page (`get-applied`); whether the page is truncated; and
-- that of numbers which rise, the first ones up to a place are all those that are at most the one
-- there (`has-take`).
use Rattle.std.proofs.Common.{◌≡◌, ℕ, zero, suc, ◌-◌, ◌<◌, ◌≤◌, max, min, Bool, true, false, cond}
use Rattle.std.proofs.Common.{◌&&◌, ◌||◌, ◌==◌, List, [], ◌∷◌, length, take, map, get_or, Option}
use Rattle.std.proofs.Common.{Some, None, Result, Ok, Err, nat_lt, nat_le, is_some, IsSome, inl}
use Rattle.std.proofs.Common.{refl, sym, ap, ◌∙◌, subst, ⊎_elim, arith}
use Rattle.std.specs.Option.{option_map_or}
use Rattle.std.specs.FinMap as finite
use Rattle.std.specs.FinMap.{get-empty, get-insert, get-remove, same_map}
use Rattle.std.proofs.lemmas.Bool.{cases_Bool, cases_lt, cond-true, cond-false, or_cases, or_left}
use Rattle.std.proofs.lemmas.Bool.{or_right, or_parts, and_cases, both_ways, false_from_ne_true}
use Rattle.std.proofs.lemmas.Bool.{false≢true, ltb-true, ltb-false, le-leb, lt-leb}
use Rattle.std.proofs.lemmas.Bool.Decides.{Decides-eqb}
use Rattle.std.proofs.lemmas.List.{take-map}
use Rattle.std.proofs.lemmas.Option.{same_Some}
use Rattle.std.proofs.lemmas.Map.Lookups.{exact_bytes}
use Rattle.base_types.specs.TextMaps.{text_cmp}
use Rattle.book_model.specs.declared.page.Entry.TheVariants.{Changed, Removed}
use Rattle.book_model.specs.declared.page.Page.{Page}
use Rattle.book_model.specs.declared.refusal.Refusal.{Refusal}
use Rattle.book_model.specs.declared.refusal.Refusal.TheVariants.{NoSuchBook, BadToken, BadLimit}
use Rattle.book_model.specs.declared.refusal.TokenCause.TheVariants.{OtherBook, TooNew, TooOld}
use Rattle.book_model.specs.declared.token.Mark.{Mark}
use Rattle.book_model.specs.declared.token.Token.{Token}
use Rattle.book_model.specs.Bounds.{Bounds}
use Rattle.book_laws.specs.EventLogs.{BookEvent, same_uid, live, last_number}
use Rattle.book_model.specs.Books.{LiveCards}
use Rattle.book_model.specs.CallOutcomes.{◌>>=◌, refuse_unless}
use Rattle.book_model.specs.Pages.{requested_mark, page_size, mark_after, page_of}
use Rattle.book_laws.specs.Reports.{initial_mark, is_due_member, due, entry_of, truncated_log_page}
use Rattle.book_laws.specs.Reports.{complete_log_page, report}
use Rattle.book_laws.specs.StoreHistories.{BookHistory, BookHistories}
use Rattle.book_laws.specs.HistorySteps.{empty_history, with_event, report_on_histories}
use Rattle.book_model.specs.Devices.{copy_after_entries, copy_after_entry, DeviceState}
use Rattle.book_model.specs.Devices.{copy_before_page, device_after_page}
use Rattle.book_laws.specs.DeviceConsistency.{Agrees, IsConsistentAt, IsConsistentDevice}
use Rattle.book_laws.specs.Paging.{mark_of_token, page_for_device}
use Rattle.book_laws.specs.DeviceLaws.{EmptyCopyAgrees, CopiesStayConsistent}
use Rattle.book_laws.specs.DeviceLaws.{PartialPagesKeepCopiesConsistent}
use Rattle.book_laws.specs.DeviceLaws.{WholePagesKeepCopiesConsistent, LastPagesCompleteCopies}
use Rattle.book_laws.specs.DeviceLaws.{DevicesStartConsistent, CopiesWithNoneDueAreComplete}
use Rattle.book_laws.specs.DeviceLaws.{InitialReportsListLiveMembers, NewBooksKeepDevicesConsistent}
use Rattle.book_laws.specs.DeviceLaws.{LastPagesCompleteDevices, ConsistentTokensAreAccepted}
use Rattle.book_laws.specs.DeviceLaws.{ConsistentTokensExpireBelowHorizon}
use Rattle.book_laws.specs.DeviceLaws.{EventsKeepDevicesConsistent}
use Rattle.book_laws.specs.DeviceLaws.{PartialPagesKeepDevicesConsistent}
use Rattle.book_laws.specs.DeviceLaws.{WholePagesKeepDevicesConsistent}
use Rattle.book_model.proofs.BasicLemmas.{both, is_some-false}
use Rattle.base_types.proofs.TextLemmas.{text_total, same-equal}
use Rattle.book_laws.proofs.HistoryLemmas.{has, last-le, last_here, last_other, last_event}
use Rattle.book_laws.proofs.HistoryLemmas.{event-le, Rises, get-changed}
use Rattle.book_laws.proofs.DueLemmas.{has-due, due_have_events, above_first, due-rises}
use Rattle.base_types.proofs.BoolLemmas.{same_branches}

-- ---- events

-- a UID whose last event is among the earlier ones isn't the newest event's
not_newest : (h : List BookEvent) (e : BookEvent) (uid : List ℕ)
    → last_number (e ∷ h) uid ≤ length h → same_uid uid e.uid ≡ false
not_newest h e uid le = ⊎_elim
    (λ here. let top = last_here h e uid here in absurd (omega (arith, top, le)))
    (λ other. other)
    (cases_Bool (same_uid uid e.uid))

pub copies_stay_consistent : CopiesStayConsistent
copies_stay_consistent copy mark h e a = record {
  ordered = a.ordered;
  within_log = let within_log = a.within_log in omega (arith, within_log);
  agrees_up_to_at = λ uid le.
      let other = not_newest h e uid (let o = a.ordered in let p = a.within_log in
      omega (arith, le, o, p)) in
      let same_last : last_number (e ∷ h) uid ≡ last_number h uid = last_other h e uid other in
      a.agrees_up_to_at uid (omega (arith, le, same_last))
      ∙ sym (get-changed (live h) e.uid uid e.change _ other);
  removed_up_to_base = λ uid none le.
      let other = not_newest h e uid (let p = a.within_log in omega (arith, le, p)) in
      let same_last : last_number (e ∷ h) uid ≡ last_number h uid = last_other h e uid other in
      a.removed_up_to_base uid (sym (get-changed (live h) e.uid uid e.change _ other)
      ∙ none) (omega (arith, le, same_last));
}

-- a UID without an event isn't live
never_live : (h : List BookEvent) (uid : List ℕ) → last_number h uid ≤ 0
    → finite.get (live h) uid ≡ None
never_live [] uid le = get-empty text_cmp uid
never_live (e ∷ h) uid le =
    let other = not_newest h e uid (omega (arith, le)) in
    let same_last : last_number (e ∷ h) uid ≡ last_number h uid = last_other h e uid other in
    get-changed (live h) e.uid uid e.change _ other
    ∙ never_live h uid (omega (arith, le, same_last))

pub empty_copy_agrees : EmptyCopyAgrees
empty_copy_agrees h = record {
  ordered = omega arith;
  within_log = omega arith;
  agrees_up_to_at = λ uid le. get-empty text_cmp uid ∙ sym (never_live h uid le);
  removed_up_to_base = λ uid none le. get-empty text_cmp uid;
}

-- ---- entries

-- the copy after one entry
get-applied_one : (copy : LiveCards) (h : List BookEvent) (v uid : List ℕ)
    → finite.get (copy_after_entry copy (entry_of h v)) uid ≡ cond (same_uid uid v)
    (finite.get (live h) v) (finite.get copy uid)
get-applied_one copy h v uid =
    elim (finite.get (live h) v) as (λ o. finite.get
    (copy_after_entry copy (option_map_or (λ stored. Changed v stored.version stored.card) o
    (Removed v))) uid ≡ cond (same_uid uid v) o (finite.get copy uid)) [
      | Some stored ↦ get-insert text_total copy v stored uid
      | None ↦ get-remove text_total copy v uid
    ]

later_wins : {A : Type 0} (a b : Bool) (x y z : A) → (a ≡ true → y ≡ x)
    → cond b x (cond a y z) ≡ cond (a || b) x z
later_wins true true x y z e = refl
later_wins true false x y z e = e refl
later_wins false b x y z e = refl

-- the copy has each of the members as it is now, and the others as before
pub get-applied : (copy : LiveCards) (h : List BookEvent) (uids : List (List ℕ)) (uid : List ℕ)
    → finite.get (copy_after_entries copy (map (entry_of h) uids)) uid ≡ cond (has uids uid)
    (finite.get (live h) uid) (finite.get copy uid)
get-applied copy h [] uid = refl
get-applied copy h (v ∷ uids) uid =
    get-applied (copy_after_entry copy (entry_of h v)) h uids uid
    ∙ ap (cond (has uids uid) (finite.get (live h) uid)) (get-applied_one copy h v uid)
    ∙ later_wins (same_uid uid v) (has uids uid) _ _ _ (λ here. ap (finite.get (live h))
    (sym (same-equal uid v here)))

-- entries of any members, each as it is now, keep a consistent copy consistent
some_applied : (copy : LiveCards) (mark : Mark) (h : List BookEvent) (uids : List (List ℕ))
    → Agrees copy mark h → Agrees (copy_after_entries copy (map (entry_of h) uids)) mark h
some_applied copy mark h uids a = record {
  ordered = a.ordered;
  within_log = a.within_log;
  agrees_up_to_at = λ uid le. get-applied copy h uids uid
      ∙ ap (cond (has uids uid) (finite.get (live h) uid)) (a.agrees_up_to_at uid le)
      ∙ same_branches (has uids uid) _;
  removed_up_to_base = λ uid none le. get-applied copy h uids uid
      ∙ ap (λ o. cond (has uids uid) o (finite.get copy uid)) none
      ∙ ap (cond (has uids uid) None) (a.removed_up_to_base uid none le)
      ∙ same_branches (has uids uid) _;
}

-- the entries are those of due members, truncated or not
pub partial_page_keeps_copy : PartialPagesKeepCopiesConsistent
partial_page_keeps_copy copy mark h k count a =
    elim (nat_lt k (length (due h mark))) as
    (λ b. Agrees (copy_after_entries copy
    (take count (cond b (truncated_log_page h mark k) (complete_log_page h mark)).entries)) mark
    h) [
      | true ↦ subst (λ es. Agrees (copy_after_entries copy es) mark h)
          (sym (take-map (entry_of h) count (take k (due h mark))))
          (some_applied copy mark h (take count (take k (due h mark))) a)
      | false ↦ subst (λ es. Agrees (copy_after_entries copy es) mark h)
          (sym (take-map (entry_of h) count (due h mark)))
          (some_applied copy mark h (take count (due h mark)) a)
    ]

-- ---- whole pages

-- a consistent copy has the live card of each member that isn't due
get_not_due : (copy : LiveCards) (mark : Mark) (h : List BookEvent) (uid : List ℕ)
    → Agrees copy mark h → is_due_member h mark uid ≡ false
    → finite.get copy uid ≡ finite.get (live h) uid
get_not_due copy mark h uid a d = ⊎_elim
    (λ old. a.agrees_up_to_at uid (ltb-false _ _ old))
    (λ out.
    let parts = or_parts _ _ out in
    let none = is_some-false (finite.get (live h) uid) parts.0 in
    a.removed_up_to_base uid none (ltb-false _ _ parts.1) ∙ sym none)
    (and_cases _ _ d)

-- with all due members a consistent copy equals the live cards
all_applied : (copy : LiveCards) (mark : Mark) (h : List BookEvent) → Agrees copy mark h
    → (uid : List ℕ) → finite.get (copy_after_entries copy (map (entry_of h) (due h mark))) uid
    ≡ finite.get (live h) uid
all_applied copy mark h a uid =
    get-applied copy h (due h mark) uid
    ∙ ⊎_elim
    (λ returned. cond-true _ _ _ returned)
    (λ out. cond-false _ _ _ out ∙ get_not_due copy mark h uid a
    (false_from_ne_true _ (λ d. both_ways _ out (has-due h mark uid d))))
    (cases_Bool (has (due h mark) uid))

-- the first elements of a list that rises by f, up to a place, have each whose number is at most
-- the one there
module _ (f : List ℕ → ℕ) (uid : List ℕ) where
  has-take_at : (uids : List (List ℕ)) (n : ℕ) → Rises f uids → n < length uids
      → has uids uid ≡ true → f uid ≤ f (get_or uids n []) → has (take (suc n) uids) uid ≡ true
  has-take_at [] n r l h le = absurd (omega arith)
  has-take_at (v ∷ uids) zero r l h le = ⊎_elim
      (λ is. or_left _ _ is)
      (λ later. let more = above_first f uid (f v) uids r.0 later in
      absurd (omega (arith, more, le)))
      (or_cases _ _ h)
  has-take_at (v ∷ uids) (suc n) r l h le = ⊎_elim
      (λ is. or_left _ _ is)
      (λ later. or_right _ _ (has-take_at uids n r.1 (omega arith) later le))
      (or_cases _ _ h)

  has-take : (uids : List (List ℕ)) (k : ℕ) → 0 < k → Rises f uids → k ≤ length uids
      → has uids uid ≡ true → f uid ≤ f (get_or uids (k - 1) []) → has (take k uids) uid ≡ true
  has-take uids zero p r l h le = absurd (omega arith)
  has-take uids (suc n) p r l h le =
      let back : suc n - 1 ≡ n = omega arith in
      has-take_at uids n r (omega arith) h (subst (λ m. f uid ≤ f (get_or uids m [])) back le)

-- with the first k due members a consistent copy is consistent up to the last of them
module _ (copy : LiveCards) (mark : Mark) (h : List BookEvent) (k : ℕ) (some : 0 < k) (more :
    k < length (due h mark)) (a : Agrees copy mark h) where
  abbrev returned : List (List ℕ)
  returned = take k (due h mark)

  abbrev edge : ℕ
  edge = last_number h (get_or (due h mark) (k - 1) [])

  -- a due member that isn't listed is after the last one that is
  not_listed : (uid : List ℕ) → has returned uid ≡ false → last_number h uid ≤ edge
      → is_due_member h mark uid ≡ false
  not_listed uid out le = false_from_ne_true _ (λ d.
      both_ways _ out (has-take (last_number h) uid (due h mark) k some (due-rises h mark)
      (omega (arith, more)) (has-due h mark uid d) le))

  settled_up_to : (uid : List ℕ) → last_number h uid ≤ edge
      → cond (has returned uid) (finite.get (live h) uid) (finite.get copy uid)
      ≡ finite.get (live h) uid
  settled_up_to uid le = ⊎_elim
      (λ in_page. cond-true _ _ _ in_page)
      (λ out. cond-false _ _ _ out ∙ get_not_due copy mark h uid a (not_listed uid out le))
      (cases_Bool (has returned uid))

  gone_up_to : (uid : List ℕ) → finite.get (live h) uid ≡ None
      → last_number h uid ≤ max edge mark.base → cond (has returned uid) (finite.get (live h) uid)
      (finite.get copy uid) ≡ None
  gone_up_to uid none le = ⊎_elim
      (λ late. ap (λ o. cond (has returned uid) o (finite.get copy uid)) none
      ∙ ap (cond (has returned uid) None) (a.removed_up_to_base uid none (omega (
        arith,
        le,
        late,
      ))) ∙ same_branches (has returned uid) _)
      (λ early. settled_up_to uid early ∙ none)
      (cases_lt edge (last_number h uid))

  cut_applied : Agrees (copy_after_entries copy (map (entry_of h) returned)) (mark_after mark edge)
      h
  cut_applied = record {
    ordered = omega arith;
    within_log = let most = last-le h (get_or (due h mark) (k - 1) []) in let within_log =
        a.within_log in omega (arith, most, within_log);
    agrees_up_to_at = λ uid le. get-applied copy h returned uid ∙ settled_up_to uid le;
    removed_up_to_base = λ uid none le. get-applied copy h returned uid ∙ gone_up_to uid none le;
  }

pub whole_page_keeps_copy : WholePagesKeepCopiesConsistent
whole_page_keeps_copy copy mark h k some a =
    elim (nat_lt k (length (due h mark))) as (λ b. nat_lt k (length (due h mark)) ≡ b
    → Agrees (copy_after_entries copy (cond b (truncated_log_page h mark k)
    (complete_log_page h mark)).entries) (cond b (truncated_log_page h mark k)
    (complete_log_page h mark)).mark h) [
      | true ↦ λ more. cut_applied copy mark h k some (ltb-true _ _ more) a
      | false ↦ λ all. record {
        ordered = omega arith;
        within_log = omega arith;
        agrees_up_to_at = λ uid le. all_applied copy mark h a uid;
        removed_up_to_base = λ uid none le. all_applied copy mark h a uid ∙ none;
      }
    ] refl

pub last_pages_complete_copies : LastPagesCompleteCopies
last_pages_complete_copies copy mark h k a =
    elim (nat_lt k (length (due h mark))) as
    (λ b. (cond b (truncated_log_page h mark k) (complete_log_page h mark)).truncated ≡ false
    → copy_after_entries copy (cond b (truncated_log_page h mark k)
    (complete_log_page h mark)).entries ≡ live h) [
      | true ↦ λ t. absurd (false≢true (sym t))
      | false ↦ λ t. same_map text_total exact_bytes _ _ (all_applied copy mark h a)
    ]

pub nobody_due_is_complete : CopiesWithNoneDueAreComplete
nobody_due_is_complete copy mark h a none = same_map text_total exact_bytes _ _ (λ uid.
    get_not_due copy mark h uid a (false_from_ne_true _
    (λ d. both_ways false refl (sym (ap (λ (uids : List (List ℕ)). has uids uid) none)
    ∙ has-due h mark uid d))))

pub live_are_due_first : InitialReportsListLiveMembers
live_are_due_first h uid = (
  λ c. ⊎_elim
      (λ here. here)
      (λ late.
      let newest = event-le h late.number uid late.event in
      let above = late.above in
      let most = last-le h uid in
      absurd (omega (arith, newest, above, most)))
      ((due_have_events h (initial_mark h) uid).0 c).1,
  λ here. (due_have_events h (initial_mark h) uid).1 (
    record {
      number = last_number h uid;
      above = has_event here;
      event = last_event h uid (has_event here);
    },
    inl here,
  ),
)
  where
    has_event : IsSome (finite.get (live h) uid) → 0 < last_number h uid
    has_event here = ⊎_elim
        (λ some. some)
        (λ never. absurd (both_ways _ (ap is_some (never_live h uid never)) here))
        (cases_lt 0 (last_number h uid))

-- ---- devices

none_is_some : {A : Type 0} (x : A) → None ≡ Some x → ⊥
none_is_some x e = cc

pub devices_start_consistent : DevicesStartConsistent
devices_start_consistent histories device none token e = absurd (none_is_some token (sym none ∙ e))

pub event_keeps_device : EventsKeepDevicesConsistent
event_keeps_device histories name history e device is consistent token at =
    let r = consistent token at in ⊎_elim
    (λ here.
    let same : r.history ≡ history = same_Some r.history history (sym r.found
    ∙ ap (finite.get histories) (same-equal device.book name here) ∙ is) in
    record {
      history = with_event history e;
      found = get-insert text_total histories name (with_event history e) device.book
          ∙ cond-true _ _ _ here;
      own = r.own ∙ ap (λ (s : BookHistory). s.id) same;
      agrees = subst (λ (s : BookHistory). Agrees device.copy token.mark (e ∷ s.log)) same
          (copies_stay_consistent device.copy token.mark r.history.log e r.agrees);
    })
    (λ other. record {
      history = r.history;
      found = get-insert text_total histories name (with_event history e) device.book
          ∙ cond-false _ _ _ other ∙ r.found;
      own = r.own;
      agrees = r.agrees;
    })
    (cases_Bool (same_uid device.book name))

pub new_book_keeps_device : NewBooksKeepDevicesConsistent
new_book_keeps_device histories name id keep device none consistent token at =
    let r = consistent token at in ⊎_elim
    (λ here. absurd (none_is_some r.history (sym none
    ∙ ap (finite.get histories) (sym (same-equal device.book name here)) ∙ r.found)))
    (λ other. record {
      history = r.history;
      found = get-insert text_total histories name (empty_history id keep) device.book
          ∙ cond-false _ _ _ other ∙ r.found;
      own = r.own;
      agrees = r.agrees;
    })
    (cases_Bool (same_uid device.book name))

-- ---- its page

-- the book that a consistent device names
module _ (histories : BookHistories) (device : DeviceState) (history : BookHistory) (found :
    finite.get histories device.book ≡ Some history) (consistent : IsConsistentDevice histories
    device) where
  -- what a page is applied to agrees at the mark that asks
  pub ready : Agrees (copy_before_page device.token device.copy)
      (mark_of_token history.log device.token) history.log
  ready = by_token device.token consistent
    where
      by_token : (token : Option Token) → ((t : Token) → token ≡ Some t
          → IsConsistentAt histories device t) → Agrees (copy_before_page token device.copy)
          (mark_of_token history.log token) history.log
      by_token None consistent = empty_copy_agrees history.log
      by_token (Some token) consistent =
          let r = consistent token refl in
          subst (λ (s : BookHistory). Agrees device.copy token.mark s.log)
          (same_Some r.history history (sym r.found ∙ found)) r.agrees

  consistent_in_part : (k count : ℕ)
      → IsConsistentDevice histories (record device {
        copy = copy_after_entries
            (copy_before_page device.token device.copy)
            (take count (page_for_device history device k).entries);
      })
  consistent_in_part k count token at =
      let r = consistent token at in
      record {
        history = history;
        found = found;
        own = r.own ∙ ap (λ (s : BookHistory). s.id) (same_Some r.history history (sym r.found
            ∙ found));
        agrees =
            subst (λ (t : Option Token). Agrees
            (copy_after_entries (copy_before_page device.token device.copy)
            (take count (page_for_device history device k).entries)) (mark_of_token history.log
            t) history.log) at
            (partial_page_keeps_copy (copy_before_page device.token device.copy)
            (mark_of_token history.log device.token) history.log k count ready);
      }

  consistent_after_page : (k : ℕ) → 0 < k
      → IsConsistentDevice histories (device_after_page device (page_for_device history device k))
  consistent_after_page k some token at =
      subst (IsConsistentAt histories (device_after_page device (page_for_device history device k)))
      (same_Some _ token at) (record {
        history = history;
        found = found;
        own = refl;
        agrees = whole_page_keeps_copy (copy_before_page device.token device.copy)
            (mark_of_token history.log device.token) history.log k some ready;
      })

  complete_after_page : (k : ℕ) → (page_for_device history device k).truncated ≡ false
      → (device_after_page device (page_for_device history device k)).copy ≡ live history.log
  complete_after_page k = last_pages_complete_copies (copy_before_page device.token device.copy)
      (mark_of_token history.log device.token) history.log k ready

-- a page that a report means is one that the device's book has for it
record IsFrom (limits : Bounds) (o : Option BookHistory) (device : DeviceState) (page : Page) :
    Type 0 where
  history : BookHistory
  size : ℕ
  history_is : o ≡ Some history
  page_is : page ≡ page_for_device history device size
  some : 0 < limits.page_max → 0 < size

passed : (own known old : Bool) (mark asked : Mark)
    → (refuse_unless own (BadToken OtherBook) >>= λ _. refuse_unless known (BadToken TooNew) >>=
    λ _. refuse_unless old (BadToken TooOld) >>= λ _. Ok mark) ≡ Ok asked → asked ≡ mark
passed true true true mark asked e = cc
passed true true false mark asked e = cc
passed true false old mark asked e = cc
passed false known old mark asked e = cc

asked_is : (history : BookHistory) (token : Option Token) (asked : Mark)
    → requested_mark history.id (length history.log) history.horizon token ≡ Ok asked
    → asked ≡ mark_of_token history.log token
asked_is history None asked e = cc
asked_is history (Some token) asked e =
    let number = length history.log in
    passed (token.book == history.id) (nat_le token.mark.at number && nat_le token.mark.base number)
    (nat_le history.horizon token.mark.base) token.mark asked e

size_some : (page_max : ℕ) (limit : Option ℕ) (size : ℕ) → page_size page_max limit ≡ Ok size
    → 0 < page_max → 0 < size
size_some page_max None size e some = let is : page_max ≡ size = cc in omega (arith, is, some)
size_some page_max (Some limit) size e some =
    elim (nat_lt 0 limit) as (λ b. nat_lt 0 limit ≡ b
    → (refuse_unless b BadLimit >>= λ _. Ok (min limit page_max)) ≡ Ok size → 0 < size) [
      | true ↦ λ asks e. let is : min limit page_max ≡ size = cc in let more : 0 < limit =
          ltb-true _ _ asks in omega (arith, is, more, some)
      | false ↦ λ asks e. cc
    ] refl e

listed_from : (limits : Bounds) (histories : BookHistories) (device : DeviceState) (limit :
    Option ℕ) (page : Page) → report_on_histories limits histories device.book device.token limit
    ≡ Ok page → IsFrom limits (finite.get histories device.book) device page
listed_from limits histories device limit page e = by_history (finite.get histories device.book) e
  where
    by_mark : (history : BookHistory) (mark : Result Mark Refusal) (size : Result ℕ Refusal)
        → requested_mark history.id (length history.log) history.horizon device.token ≡ mark
        → page_size limits.page_max limit ≡ size
        → (mark >>= λ m. size >>= λ k. Ok (page_of history.id (report history.log m k))) ≡ Ok page
        → IsFrom limits (Some history) device page
    by_mark history (Ok mark) (Ok k) is_mark is_size e =
        let is : page_of history.id (report history.log mark k) ≡ page = cc in
        record {
          history = history;
          size = k;
          history_is = refl;
          page_is = sym is ∙ ap (λ (m : Mark). page_of history.id (report history.log m k))
              (asked_is history device.token mark is_mark);
          some = size_some limits.page_max limit k is_size;
        }
    by_mark history (Ok mark) (Err refusal) is_mark is_size e = absurd (no_page e)
      where
        no_page : Err refusal ≡ Ok page → ⊥
        no_page n = cc
    by_mark history (Err refusal) size is_mark is_size e = absurd (no_page e)
      where
        no_page : Err refusal ≡ Ok page → ⊥
        no_page n = cc

    by_history : (o : Option BookHistory)
        → (option_map_or Ok o (Err NoSuchBook) >>= λ history. requested_mark history.id
        (length history.log) history.horizon device.token >>= λ m. page_size limits.page_max limit
        >>= λ k. Ok (page_of history.id (report history.log m k))) ≡ Ok page
        → IsFrom limits o device page
    by_history None e = absurd (no_page e)
      where
        no_page : Err NoSuchBook ≡ Ok page → ⊥
        no_page n = cc
    by_history (Some history) e = by_mark history (requested_mark history.id (length history.log)
        history.horizon device.token) (page_size limits.page_max limit) refl refl e

pub partial_page_keeps_device : PartialPagesKeepDevicesConsistent
partial_page_keeps_device limits histories device after limit page consistent e part =
    let from = listed_from limits histories device limit page e in ⊎_elim
    (λ same. subst (IsConsistentDevice histories) (sym same) consistent)
    (λ first. subst (IsConsistentDevice histories) (sym first.after_is)
    (subst (λ (p : Page). IsConsistentDevice histories
    (record device {
      copy = copy_after_entries (copy_before_page device.token device.copy)
          (take first.count p.entries);
    })) (sym from.page_is)
    (consistent_in_part histories device from.history from.history_is consistent from.size
    first.count)))
    part

pub whole_page_keeps_device : WholePagesKeepDevicesConsistent
whole_page_keeps_device limits histories device limit page some consistent e =
    let from = listed_from limits histories device limit page e in
    subst (λ (p : Page). IsConsistentDevice histories (device_after_page device p))
    (sym from.page_is)
    (consistent_after_page histories device from.history from.history_is consistent from.size
    (from.some some))

pub last_pages_complete_all : LastPagesCompleteDevices
last_pages_complete_all limits histories device limit page consistent e last_number =
    let from = listed_from limits histories device limit page e in
    record {
      history = from.history;
      found = from.history_is;
      copy =
          ap (λ (p : Page). (device_after_page device p).copy) from.page_is
          ∙ complete_after_page histories device from.history from.history_is consistent from.size
          (sym (ap (λ (p : Page). p.truncated) from.page_is) ∙ last_number);
    }

-- ---- its token

opened : (own known old : Bool) (mark : Mark) → own ≡ true → known ≡ true
    → (refuse_unless own (BadToken OtherBook) >>= λ _. refuse_unless known (BadToken TooNew) >>=
    λ _. refuse_unless old (BadToken TooOld) >>= λ _. Ok mark)
    ≡ (refuse_unless old (BadToken TooOld) >>= λ _. Ok mark)
opened true true old mark o k = refl
opened true false old mark o k = absurd (both_ways false refl k)
opened false known old mark o k = absurd (both_ways false refl o)

-- the token of a consistent device can only be too old
by_age : (histories : BookHistories) (device : DeviceState) (token : Token) (consistent :
    IsConsistentAt histories device token)
    → requested_mark consistent.history.id (length consistent.history.log)
    consistent.history.horizon (Some token)
    ≡ (refuse_unless (nat_le consistent.history.horizon token.mark.base) (BadToken TooOld) >>=
    λ _. Ok token.mark)
by_age histories device token consistent =
    let number = length consistent.history.log in
    let within_log = consistent.agrees.within_log in
    let ordered = consistent.agrees.ordered in
    opened (token.book == consistent.history.id) (nat_le token.mark.at number
    && nat_le token.mark.base number) (nat_le consistent.history.horizon token.mark.base)
    token.mark
    ((Decides-eqb token.book consistent.history.id).1 consistent.own)
    (both _ _ (le-leb _ _ (omega (arith, within_log, ordered))) (le-leb _ _ within_log))

pub consistent_tokens_are_accepted : ConsistentTokensAreAccepted
consistent_tokens_are_accepted histories device token consistent le =
    by_age histories device token consistent
    ∙ ap (λ young. refuse_unless young (BadToken TooOld) >>= λ _. Ok token.mark) (le-leb _ _ le)

pub consistent_tokens_expire : ConsistentTokensExpireBelowHorizon
consistent_tokens_expire histories device token consistent old =
    by_age histories device token consistent
    ∙ ap (λ young. refuse_unless young (BadToken TooOld) >>= λ _. Ok token.mark)
    (lt-leb consistent.history.horizon token.mark.base old)
