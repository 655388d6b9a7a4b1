-- The number of truncated pages that a device receives in a run.
use Rattle.std.proofs.Common.{All, ◌≡◌, ◌≢◌, ℕ, zero, suc, ◌+◌, ◌*◌, ◌<◌, ◌≤◌, ◌==◌, Bool, true}
use Rattle.std.proofs.Common.{false, cond, ◌&&◌, ◌||◌, nat_lt, nat_le, is_some, List, [], ◌∷◌, ◌++◌}
use Rattle.std.proofs.Common.{length, filter, Option, Some, None, Result, Ok, Err, slice_get}
use Rattle.std.proofs.Common.{slice_set, refl, sym, ap, ◌∙◌, subst, ⊎_elim, inl, inr, ◌⊎◌, arith}
use Rattle.std.proofs.Common.{length-append}
use Rattle.std.specs.Option.{option_map, option_map_or}
use Rattle.std.specs.List.{zip}
use Rattle.std.proofs.lemmas.List.Elements.{All-head, All-tail}
use Rattle.book_model.specs.Books.{Book}
use Rattle.std.specs.FinMap as finite
use Rattle.std.proofs.lemmas.Bool.{ltb-true}
use Rattle.std.proofs.lemmas.Bool.Decides.{nat_tests}
use Rattle.std.proofs.lemmas.List.Sums.{sum_by-cons}
use Rattle.std.proofs.lemmas.Option.{same_Some}
use Rattle.book_model.specs.declared.page.Page.{Page as SyncPage}
use Rattle.book_model.specs.declared.refusal.Refusal.{Refusal}
use Rattle.book_model.specs.declared.refusal.Refusal.TheVariants.{NoSuchBook, BadToken}
use Rattle.book_model.specs.declared.refusal.TokenCause.TheVariants.{OtherBook, TooNew, TooOld}
use Rattle.book_model.specs.declared.token.Mark.{Mark}
use Rattle.book_model.specs.declared.token.Token.{Token}
use Rattle.book_model.specs.Bounds.{Bounds}
use Rattle.book_model.specs.Devices.{DeviceState, device_after_page}
use Rattle.book_laws.specs.Paging.{mark_of_token, page_for_device}
use Rattle.book_laws.specs.EventLogs.{BookEvent, touched_uids, live, last_number}
use Rattle.book_model.specs.CallOutcomes.{◌>>=◌, refuse_unless}
use Rattle.book_model.specs.Pages.{requested_mark, page_size, ReportAnswer, page_of}
use Rattle.book_laws.specs.PagingLaws.{TruncatedPagesLeaveFewer, LastPagesLeaveNoneDue}
use Rattle.book_laws.specs.Reports.{initial_mark, is_due_member, due, truncated_log_page}
use Rattle.book_laws.specs.Reports.{complete_log_page, report}
use Rattle.book_laws.specs.HistoryExtension.{Extends}
use Rattle.book_laws.specs.RunLaws.{CallsExtendHistories}
use Rattle.book_laws.specs.RowLaws.{RowsArePerBook}
use Rattle.book_laws.specs.StoreHistories.{BookHistory, BookHistories, book_of_history, rows_of}
use Rattle.book_laws.specs.HistorySteps.{report_on_histories}
use Rattle.book_service.specs.declared.event.Event.{Event}
use Rattle.book_service.specs.declared.event.Event.TheVariants.{Do, Ask}
use Rattle.book_commands.specs.declared.reply.Reply.{Reply}
use Rattle.book_commands.specs.declared.reply.Reply.TheVariants as reply
use Rattle.book_service.specs.DeviceReplies.{HandlesReply}
use Rattle.book_service.specs.PageCounts.{DeviceHasBook, due_count_for, IsAnsweredByPage, is_ask_of}
use Rattle.book_service.specs.PageCounts.{is_truncated, truncated_pages}
use Rattle.book_service.specs.Promise.{TruncatedPagesAreBounded}
use Rattle.book_service.specs.Runs.{SystemState, Step, TraceStep, Run, end_of, events_of}
use Rattle.book_service.specs.Runs.{replies_of}
use Rattle.book_service.proofs.StepLemmas.{place_set, step_leads, step_limits}
use Rattle.book_laws.proofs.PagingLemmas.{events_add}

-- ---- members that are due

-- a stronger condition passes fewer elements
fewer_pass : {A : Type 0} (q r : A → Bool) → ((v : A) → q v ≡ true → r v ≡ true) → (xs : List A)
    → length (filter q xs) ≤ length (filter r xs)
fewer_pass q r h [] = omega arith
fewer_pass q r h (x ∷ xs) =
    let rest = fewer_pass q r h xs in
    elim (q x) as (λ b. q x ≡ b → length (cond b (x ∷ filter q xs) (filter q xs)) ≤ length
    (cond (r x) (x ∷ filter r xs) (filter r xs))) [
      | false ↦ λ _. elim (r x) as (λ t. length (filter q xs) ≤ length
          (cond t (x ∷ filter r xs) (filter r xs))) [ true ↦ omega (arith, rest) | false ↦ rest ]
      | true ↦ λ b. subst (λ t. suc (length (filter q xs)) ≤ length
          (cond t (x ∷ filter r xs) (filter r xs))) (sym (h x b)) (omega (arith, rest))
    ] refl

lower : (a l : Bool) (b c n : ℕ) → b ≤ c → (a && (l || nat_lt c n)) ≡ true
    → (a && (l || nat_lt b n)) ≡ true
lower true true b c n le e = refl
lower true false b c n le e = grind (arith, nat_tests, le, e)
lower false l b c n le e = e

base_rises : (h : List BookEvent) (at b c : ℕ) → b ≤ c
    → length (due h (record { at = at; base = c })) ≤ length (due h (record { at = at; base = b }))
base_rises h at b c le =
    fewer_pass (is_due_member h (record { at = at; base = c })) (is_due_member h (record {
      at = at;
      base = b;
    }))
    (λ uid. lower (nat_lt at (last_number h uid)) (is_some (finite.get (live h) uid)) b c
    (last_number h uid) le) (touched_uids h)

under_token : (h later : List BookEvent) (token : Option Token)
    → length (due (later ++ h) (mark_of_token (later ++ h) token)) ≤ length
    (due h (mark_of_token h token)) + length later
under_token h later None =
    let longer = length-append later h in
    let fewer = base_rises (later ++ h) 0 (length h) (length (later ++ h))
    (omega (arith, longer)) in
    let more = events_add h later (initial_mark h) in
    omega (arith, fewer, more)
under_token h later (Some token) = events_add h later token.mark

goes_on_due : (old new : BookHistory) (device : DeviceState) → Extends old new
    → due_count_for new device + length old.log ≤ due_count_for old device + length new.log
goes_on_due old new device g =
    let more = under_token old.log g.later device.token in
    let longer = length-append g.later old.log in
    subst (λ (h : List BookEvent). length (due h (mark_of_token h device.token)) + length old.log ≤
    due_count_for old device + length h) (sym g.log) (omega (arith, more, longer))

-- ---- a page

same_page : (a b : SyncPage) → ◌≡◌ {A = Result SyncPage Refusal} (Ok a) (Ok b) → a ≡ b
same_page a b e = cc

accepted : (own known old : Bool) (mark : Mark) (f : Mark → Result SyncPage Refusal) (page :
    SyncPage)
    → ((refuse_unless own (BadToken OtherBook) >>= λ _. refuse_unless known (BadToken TooNew) >>=
    λ _. refuse_unless old (BadToken TooOld) >>= λ _. Ok mark) >>= f) ≡ Ok page
    → f mark ≡ Ok page
accepted true true true mark f page e = e
accepted true true false mark f page e = absurd (let no : Err (BadToken TooOld) ≡ Ok page = e in cc)
accepted true false old mark f page e = absurd (let no : Err (BadToken TooNew) ≡ Ok page = e in cc)
accepted false known old mark f page e = absurd (let no : Err (BadToken OtherBook) ≡ Ok page = e in
    cc)

by_token : (history : BookHistory) (token : Option Token) (k : ℕ) (page : SyncPage)
    → (requested_mark history.id (length history.log) history.horizon token >>= λ m. Ok
    (page_of history.id (report history.log m k))) ≡ Ok page
    → page ≡ page_of history.id (report history.log (mark_of_token history.log token) k)
by_token history None k page e =
    sym (same_page (page_of history.id (report history.log (initial_mark history.log) k)) page e)
by_token history (Some token) k page e =
    sym (same_page (page_of history.id (report history.log token.mark k)) page
    (accepted (token.book == history.id) (nat_le token.mark.at (length history.log)
    && nat_le token.mark.base (length history.log)) (nat_le history.horizon token.mark.base)
    token.mark
    (λ m. Ok (page_of history.id (report history.log m k))) page e))

pub received_is : (limits : Bounds) (books : BookHistories) (device : DeviceState) (history :
    BookHistory) (limit : Option ℕ) (k : ℕ) (page : SyncPage) → finite.get books device.book
    ≡ Some history → page_size limits.page_max limit ≡ Ok k
    → report_on_histories limits books device.book device.token limit ≡ Ok page
    → page ≡ page_for_device history device k
received_is limits books device history limit k page found size e =
    by_token history device.token k page
    (subst (λ (s : Result ℕ Refusal). (requested_mark history.id (length history.log)
    history.horizon device.token >>= λ m. s >>= λ n. Ok
    (page_of history.id (report history.log m n))) ≡ Ok page) size
    (subst (λ (o : Option BookHistory). (option_map_or Ok o (Err NoSuchBook) >>= λ (s :
    BookHistory). requested_mark s.id (length s.log) s.horizon device.token >>= λ m. page_size
    limits.page_max limit >>= λ n. Ok (page_of s.id (report s.log m n))) ≡ Ok page) found e))

no_truth : false ≡ true → ⊥
no_truth e = cc

-- a page is truncated if more members are due than it has entries
cut_means : (b : Bool) (cut whole : ReportAnswer) → whole.truncated ≡ false
    → (cond b cut whole).truncated ≡ true → b ≡ true
cut_means true cut whole all e = refl
cut_means false cut whole all e = absurd (no_truth (sym all ∙ e))

module _ (fewer : TruncatedPagesLeaveFewer) (nobody : LastPagesLeaveNoneDue) where
  page_due : (history : BookHistory) (device : DeviceState) (k : ℕ) → 0 < k
      → cond (page_for_device history device k).truncated k 0 + due_count_for history
      (device_after_page device (page_for_device history device k)) ≤ due_count_for history
      device
  page_due history device k some =
      let mark = mark_of_token history.log device.token in
      elim (report history.log mark k).truncated as (λ b. (report history.log mark k).truncated ≡ b
      → cond b k 0 + length (due history.log (report history.log mark k).mark) ≤ length
      (due history.log mark)) [
        | true ↦ λ cut. let left = fewer history.log mark k some cut in omega (arith, left)
        | false ↦ λ all. let none = ap length (nobody history.log mark k all) in omega (arith, none)
      ] refl

  pub left_due : (history : BookHistory) (device : DeviceState) (k : ℕ) → 0 < k
      → (page_for_device history device k).truncated ≡ true
      → 0 < due_count_for history (device_after_page device (page_for_device history device k))
  left_due history device k some cut =
      let h = history.log in
      let mark = mark_of_token h device.token in
      let left = fewer h mark k some cut in
      let more : k < length (due h mark) =
      ltb-true _ _ (cut_means (nat_lt k (length (due h mark))) (truncated_log_page h mark k)
      (complete_log_page h mark) refl cut) in
      omega (arith, left, more)

-- ---- list indices

same_place : (i j : ℕ) → j ≡ i → (i == j) ≡ true
same_place i j e = grind (arith, nat_tests, e)

other_place : (i j : ℕ) → j ≢ i → (i == j) ≡ false
other_place i j e = grind (arith, nat_tests, e)

-- ---- a step

-- the device and its book in the next state, and the step's share of the bound
record Goes (next : SystemState) (i k : ℕ) (event : Event) (r : Reply) (old : DeviceState)
    (history : BookHistory) : Type 0 where
  device : DeviceState
  later : BookHistory
  has_book : DeviceHasBook next i device later
  name : device.book ≡ old.book
  grew : length history.log ≤ length later.log
  left : (is_ask_of i event && is_truncated r) ≡ true → 0 < due_count_for later device
  took : cond (is_ask_of i event && is_truncated r) k 0 + due_count_for later device + length
      history.log ≤ due_count_for history old + length later.log

-- a run with the bound
record Counted (now : SystemState) (i k : ℕ) (run : List TraceStep) (old : DeviceState) (history :
    BookHistory) : Type 0 where
  pub later : BookHistory
  pub found : finite.get (end_of now run).model.books old.book ≡ Some later
  pub longer : length history.log ≤ length later.log
  pub bound : 0 < truncated_pages i (events_of run) (replies_of run)
      → truncated_pages i (events_of run) (replies_of run) * k + length history.log < due_count_for
      history old + length later.log

module _ (go : CallsExtendHistories) (fewer : TruncatedPagesLeaveFewer) (nobody :
    LastPagesLeaveNoneDue) (k : ℕ) (some : 0 < k) (i : ℕ) where
  step_goes : (now next : SystemState) (event : Event) (r : Reply) (old : DeviceState) (history :
      BookHistory) → Step now event r next → IsAnsweredByPage now.model.limits.page_max i k (
        event,
        r,
      ) → DeviceHasBook now i old history → Goes next i k event r old history
  step_goes now next (Do command) r old history s pages at =
      let leads = step_leads now next (Do command) r s in
      let on = go now.model.limits now.model.books leads.calls old.book history at.found in
      let due = goes_on_due history on.0 old on.2 in
      record {
        device = old;
        later = on.0;
        has_book = record {
          device_at = ap (λ (m : SystemState). slice_get m.devices i) s.2 ∙ at.device_at;
          found = ap (λ (b : BookHistories). finite.get b old.book) leads.new_is ∙ on.1;
        };
        name = refl;
        grew = let long = ap length on.2.log ∙ length-append on.2.later history.log in
            omega (arith, long);
        left = λ no. absurd (no_truth no);
        took = omega (arith, due);
      }
  step_goes now next (Ask j limit) r old history s pages at =
      let books : next.model.books ≡ now.model.books =
      ap (λ (m : SystemState). m.model.books) s.next_is in
      let devices : next.devices ≡ slice_set now.devices j s.new =
      ap (λ (m : SystemState). m.devices) s.next_is in
      ⊎_elim
      (λ own.
      let got = pages limit (ap (λ n. Ask n limit) own.0) in
      let page : SyncPage = got.0 in
      let answers : HandlesReply (reply.Page page) (report_on_histories now.model.limits
      now.model.books old.book old.token limit) old s.new =
      subst (λ (d : DeviceState). HandlesReply (reply.Page page)
      (report_on_histories now.model.limits now.model.books d.book d.token limit) d s.new) own.2
      (subst (λ (a : Reply). HandlesReply a (report_on_histories now.model.limits now.model.books
      s.old.book s.old.token limit) s.old s.new) got.1 s.answers) in
      let is : page ≡ page_for_device history old k =
      received_is now.model.limits now.model.books old history limit k page at.found got.2
      answers.0 in
      let new_is : s.new ≡ device_after_page old (page_for_device history old k) = answers.1
      ∙ ap (device_after_page old) is in
      let cost : (is_ask_of i (Ask j limit) && is_truncated r)
      ≡ (page_for_device history old k).truncated =
      ap (λ b. b && is_truncated r) (same_place i j own.0) ∙ ap is_truncated got.1
      ∙ ap (λ (p : SyncPage). p.truncated) is in
      let due = page_due fewer nobody history old k some in
      record {
        device = device_after_page old (page_for_device history old k);
        later = history;
        has_book = record {
          device_at = ap (λ (ds : List DeviceState). slice_get ds i) devices ∙ own.1
              ∙ ap (λ (d : DeviceState). Some d) new_is;
          found = ap (λ (b : BookHistories). finite.get b old.book) books ∙ at.found;
        };
        name = refl;
        grew = omega arith;
        left = λ yes. left_due fewer nobody history old k some (sym cost ∙ yes);
        took = subst (λ b. cond b k 0 + due_count_for history
            (device_after_page old (page_for_device history old k)) + length history.log ≤
            due_count_for history old + length history.log) (sym cost) (omega (arith, due));
      })
      (λ other. record {
        device = old;
        later = history;
        has_book = record {
          device_at = ap (λ (ds : List DeviceState). slice_get ds i) devices ∙ other.1;
          found = ap (λ (b : BookHistories). finite.get b old.book) books ∙ at.found;
        };
        name = refl;
        grew = omega arith;
        left =
            λ yes. absurd (no_truth (sym (ap (λ b. b && is_truncated r) (other_place i j other.0))
            ∙ yes));
        took = subst (λ b. cond (b && is_truncated r) k 0 + due_count_for history old + length
            history.log ≤ due_count_for history old + length history.log)
            (sym (other_place i j other.0)) (omega arith);
      })
      (place_set now.devices i j s.new old s.old at.device_at s.found)

  -- ---- a run

  times : (b : Bool) (t : ℕ) → (cond b 1 0 + t) * k ≡ cond b k 0 + t * k
  times true t = search arith
  times false t = search arith

  zero_or_more : (t : ℕ) → (t ≡ 0) ⊎ (0 < t)
  zero_or_more zero = inl refl
  zero_or_more (suc t) = inr (omega arith)

  by_cut : (cut : Bool) (n nk t first mid last_number due left : ℕ) → 0 < n → n ≡ cond cut 1 0 + t
      → nk ≡ cond cut k 0 + t * k → (cut ≡ true → 0 < left)
      → cond cut k 0 + left + first ≤ due + mid → mid ≤ last_number
      → (0 < t → t * k + mid < left + last_number) → nk + first < due + last_number
  by_cut true n nk t first mid last_number due left more all sum some_left took still rest =
      let some_more = some_left refl in
      ⊎_elim
      (λ none. let nothing : t * k ≡ 0 = ap (λ m. m * k) none ∙ (let z : 0 * k ≡ 0 = search arith in
      z) in omega (arith, sum, nothing, some_more, took, still))
      (λ on. let then = rest on in omega (arith, sum, then, took))
      (zero_or_more t)
  by_cut false n nk t first mid last_number due left more all sum some_left took still rest =
      let then = rest (omega (arith, more, all)) in omega (arith, sum, then, took)

  counted : (run : List TraceStep) (limits : Bounds) (now : SystemState) (old : DeviceState)
      (history : BookHistory) → now.model.limits ≡ limits → Run now run
      → All (IsAnsweredByPage limits.page_max i k) (zip (events_of run) (replies_of run))
      → DeviceHasBook now i old history → Counted now i k run old history
  counted [] limits now old history same steps pages at = record {
    later = history;
    found = at.found;
    longer = omega arith;
    bound = λ some_cut. absurd (let none : 0 < 0 = some_cut in omega (arith, none));
  }
  counted (h ∷ run) limits now old history same steps pages at =
      let here : IsAnsweredByPage limits.page_max i k (h.event, h.reply) =
      All-head (IsAnsweredByPage limits.page_max i k) (h.event, h.reply)
      (zip (events_of run) (replies_of run)) pages in
      let one = step_goes now h.after h.event h.reply old history steps.0
      (subst (λ (l : Bounds). IsAnsweredByPage l.page_max i k (h.event, h.reply)) (sym same)
      here) at in
      let rest = counted run limits h.after one.device one.later (step_limits now h.after h.event
      h.reply steps.0 ∙ same) steps.1 (All-tail (IsAnsweredByPage limits.page_max i k) (
        h.event,
        h.reply,
      ) (zip (events_of run) (replies_of run)) pages) one.has_book in
      let cut = is_ask_of i h.event && is_truncated h.reply in
      let t = truncated_pages i (events_of run) (replies_of run) in
      let n = truncated_pages i (events_of (h ∷ run)) (replies_of (h ∷ run)) in
      let all : n ≡ cond cut 1 0 + t =
      sum_by-cons (λ (x : Event × Reply). cond (is_ask_of i x.0 && is_truncated x.1) 1 0)
      (h.event, h.reply) (zip (events_of run) (replies_of run)) in
      let sum : n * k ≡ cond cut k 0 + t * k = ap (λ m. m * k) all ∙ times cut t in
      let grew = one.grew in
      let longer = rest.longer in
      record {
        later = rest.later;
        found = subst (λ (name : List ℕ). finite.get (end_of h.after run).model.books name
            ≡ Some rest.later) one.name rest.found;
        longer = omega (arith, grew, longer);
        bound = λ some_cut.
            by_cut cut n (n * k) t (length history.log) (length one.later.log)
            (length rest.later.log) (due_count_for history old)
            (due_count_for one.later one.device)
            some_cut all sum one.left one.took rest.longer rest.bound;
      }

-- a book in the rows is the book of its history
number_of : RowsArePerBook → (books : BookHistories) (name : List ℕ) (later : BookHistory) (book :
    Book) → finite.get books name ≡ Some later → finite.get (rows_of books) name ≡ Some book
    → book.number ≡ length later.log
number_of law books name later book found there =
    let same : book_of_history later ≡ book =
    same_Some (book_of_history later) book (sym (ap (option_map book_of_history) found)
    ∙ sym (law books name) ∙ there) in
    sym (ap (λ (b : Book). b.number) same)

pub truncated_pages_are_bounded : CallsExtendHistories → TruncatedPagesLeaveFewer
    → LastPagesLeaveNoneDue → RowsArePerBook → TruncatedPagesAreBounded
truncated_pages_are_bounded go fewer nobody law now run steps i k device history book at there some
    pages some_cut =
    let count = counted go fewer nobody k some i run now.model.limits now device history refl steps
    pages at in
    let number = number_of law (end_of now run).model.books device.book count.later book count.found
    there in
    let bound = count.bound some_cut in
    omega (arith, number, bound)
