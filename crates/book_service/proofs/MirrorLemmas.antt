-- A new device that requests page after page while no book changes. Given here: the invariant of
-- the pages so far (`IsMirroring`): each took as many of the due members as its size, and some are
-- left; and how many pages are needed then.
use Rattle.std.proofs.Common.{◌/◌, ◌%◌, zero, suc, ◌*◌, min, max, cond, nat_lt, ◌≤◌, ◌≡◌, ℕ, ◌+◌}
use Rattle.std.proofs.Common.{◌<◌, ◌==◌, Bool, true, false, not, ◌&&◌, nat_le, List, [], ◌∷◌, ◌++◌}
use Rattle.std.proofs.Common.{length, Option, Some, None, Result, Ok, Err, refl, sym, ap, ◌∙◌}
use Rattle.std.proofs.Common.{subst, ⊎_elim, inl, inr, ◌⊎◌, arith, length-append}
use Rattle.std.specs.Option.{option_map_or}
use Rattle.std.specs.FinMap as finite
use Rattle.std.proofs.lemmas.Option.{none-some}
use Rattle.std.specs.Int.{div_ceil}
use Rattle.std.proofs.lemmas.Bool.{ltb-true}
use Rattle.std.proofs.lemmas.Bool.Decides.{nat_tests}
use Rattle.std.proofs.lemmas.Grind.{div_ceil_times}
use Rattle.std.proofs.Math.Nat.{lt_of_mul-lt-mul_right}
use Rattle.vcard_text.proofs.RuleLemmas.{not_false}
use Rattle.book_model.specs.declared.denied.Denied.{Denied}
use Rattle.book_model.specs.declared.denied.Denied.TheVariants.{Refused, Fault}
use Rattle.book_model.specs.declared.page.Page.{Page}
use Rattle.book_model.specs.declared.refusal.Refusal.{Refusal}
use Rattle.book_model.specs.declared.refusal.Refusal.TheVariants.{NoSuchBook, BadToken, BadLimit}
use Rattle.book_model.specs.declared.refusal.TokenCause.{TokenCause}
use Rattle.book_model.specs.declared.refusal.TokenCause.TheVariants.{OtherBook, TooNew, TooOld}
use Rattle.book_model.specs.declared.token.Mark.{Mark}
use Rattle.book_model.specs.declared.token.Token.{Token}
use Rattle.book_model.specs.Bounds.{Bounds}
use Rattle.book_model.specs.Books.{Books}
use Rattle.book_model.specs.Devices.{DeviceState, device_after_page}
use Rattle.book_laws.specs.DeviceConsistency.{IsConsistentDevice, IsUpToDate}
use Rattle.book_laws.specs.DeviceLaws.{PartialPagesKeepDevicesConsistent}
use Rattle.book_laws.specs.DeviceLaws.{WholePagesKeepDevicesConsistent, LastPagesCompleteDevices}
use Rattle.book_laws.specs.Paging.{mark_of_token, page_for_device}
use Rattle.book_laws.specs.PagingLaws.{TruncatedPagesLeaveFewer, LastPagesLeaveNoneDue}
use Rattle.book_model.specs.CallOutcomes.{◌>>=◌, refuse_unless}
use Rattle.book_model.specs.Pages.{requested_mark, page_size, page_of, ReportAnswer, token_of}
use Rattle.book_laws.specs.Reports.{due, truncated_log_page, complete_log_page, report}
use Rattle.book_laws.specs.TokenLaws.{FreshTokensAreAccepted}
use Rattle.book_laws.specs.StoreHistories.{AreSoundHistories, BookHistory, BookHistories}
use Rattle.book_laws.specs.HistorySteps.{report_on_histories}
use Rattle.book_service.specs.declared.event.Event.TheVariants.{Ask}
use Rattle.book_commands.specs.declared.reply.Reply.TheVariants as reply
use Rattle.book_service.specs.DeviceReplies.{HandlesReply}
use Rattle.book_service.specs.Mirrors.{new_device, with_device, RequestsPages, IsMirrorRun}
use Rattle.book_service.specs.Mirrors.{IsMirrorDenied, HasExactPageCount, pages_needed, report_at}
use Rattle.book_service.specs.PageCounts.{due_count_for}
use Rattle.book_service.specs.Runs.{SystemState, MatchesRows, Step, TraceStep, Run, end_of}
use Rattle.book_service.specs.Replies.{denied_reply}
use Rattle.book_service.proofs.PageCountLemmas.{received_is, left_due}
use Rattle.book_service.proofs.PromiseLemmas.{replies_keep_devices_consistent}
use Rattle.book_service.proofs.StepLemmas.{runs_join, end-append}

-- ---- the number of pages

-- a page has at least one entry
size_by : (some : Bool) (limit page_max k : ℕ)
    → (refuse_unless some BadLimit >>= λ yes. Ok (min limit page_max)) ≡ Ok k
    → (some ≡ true → 0 < limit) → 1 ≤ page_max → 0 < k
size_by true limit page_max k e above room = let is : Ok (min limit page_max) ≡ Ok k = e in
    let same : min limit page_max ≡ k = cc in let any = above refl in omega (arith, same, room, any)
size_by false limit page_max k e above room = absurd (let no : Err BadLimit ≡ Ok k = e in cc)

size_some : (limit page_max k : ℕ) → page_size page_max (Some limit) ≡ Ok k → 1 ≤ page_max → 0 < k
size_some limit page_max k e room =
    size_by (nat_lt 0 limit) limit page_max k e (λ yes. ltb-true _ _ yes) room

more_times : (n k : ℕ) → (n + 1) * k ≡ n * k + k
more_times n k = search arith

whole_means : (b : Bool) (cut whole : ReportAnswer) → cut.truncated ≡ true
    → (cond b cut whole).truncated ≡ false → b ≡ false
whole_means true cut whole all e = absurd (let no : true ≡ false = sym all ∙ e in cc)
whole_means false cut whole all e = refl

not_lt : (k n : ℕ) → nat_lt k n ≡ false → n ≤ k
not_lt k n e = grind (arith, nat_tests, e)

-- a page that isn't truncated has all due members
last_due : (history : BookHistory) (device : DeviceState) (k : ℕ)
    → (page_for_device history device k).truncated ≡ false → due_count_for history device ≤ k
last_due history device k all =
    let h = history.log in
    let mark = mark_of_token h device.token in
    not_lt k (length (due h mark)) (whole_means (nat_lt k (length (due h mark)))
    (truncated_log_page h mark k) (complete_log_page h mark) refl all)

-- after p pages that were truncated more are needed
needed_more : (m k p : ℕ) → 0 < k → (0 < p → p * k < m) → 0 < p → p < pages_needed m k
needed_more m k p some more any =
    let bounds = div_ceil_times m k some in
    let below = more any in
    let few : p * k < (m / k + min 1 (m % k)) * k = let upper = bounds.0 in
    omega (arith, upper, below) in
    let lt : p < m / k + min 1 (m % k) = lt_of_mul-lt-mul_right k few in
    omega (arith, lt)

-- and if one more page has them all, exactly that one
needed_is : (m k p : ℕ) → 0 < k → m ≤ (p + 1) * k → (0 < p → p * k < m) → pages_needed m k ≡ p + 1
needed_is m k p some all more =
    let bounds = div_ceil_times m k some in
    let next = more_times (p + 1) k in
    let below : (m / k + min 1 (m % k)) * k < (p + 1 + 1) * k = let upper = bounds.1 in
    omega (arith, upper, next, all) in
    let lt : m / k + min 1 (m % k) < p + 1 + 1 = lt_of_mul-lt-mul_right k below in
    by_p p lt (needed_more m k p some more)
  where
    by_p : (p : ℕ) → m / k + min 1 (m % k) < p + 1 + 1 → (0 < p → p < pages_needed m k)
        → pages_needed m k ≡ p + 1
    by_p zero lt more = omega (arith, lt)
    by_p (suc p) lt more = let above = more (omega arith) in omega (arith, lt, above)

test_true : (a b : ℕ) → a ≤ b → nat_le a b ≡ true
test_true a b le = grind (arith, nat_tests, le)

test_false : (a b : ℕ) → b < a → nat_le a b ≡ false
test_false a b lt = grind (arith, nat_tests, lt)

-- ---- a run of requests

-- a device's token is that of a page of its book
pub record Heard (now : SystemState) (book : List ℕ) (limit : ℕ) (device : DeviceState) :
    Type 0 where
  pub token : Option Token
  pub page : Page
  pub received : report_at now book token (Some limit) ≡ Ok page
  pub token_is : device.token ≡ Some (token_of page)

-- so far each page was truncated, and the device is consistent
pub record IsMirroring (now : SystemState) (book : List ℕ) (limit pages : ℕ) (device :
    DeviceState) : Type 0 where
  pub run : List TraceStep
  pub runs : Run (with_device now (new_device book)) run
  pub end : end_of (with_device now (new_device book)) run ≡ with_device now device
  pub asks : RequestsPages limit false run
  pub count : length run ≡ pages
  pub right : IsConsistentDevice now.model.books device
  pub name : device.book ≡ book
  pub heard : (device.token ≡ None) ⊎ Heard now book limit device
  pub room : 0 < pages → 1 ≤ now.model.limits.page_max
  pub due : (history : BookHistory) (k : ℕ) → finite.get now.model.books book ≡ Some history
      → page_size now.model.limits.page_max (Some limit) ≡ Ok k →
      (due_count_for history device + pages * k ≡ due_count_for history (new_device book))
      × (0 < pages → 0 < due_count_for history device)

pub mirror_start : (now : SystemState) (book : List ℕ) (limit : ℕ) (device : DeviceState)
    → device ≡ new_device book → IsMirroring now book limit 0 device
mirror_start now book limit device is = record {
  run = [];
  runs = tt;
  end = ap (with_device now) (sym is);
  asks = refl;
  count = refl;
  right = λ token found. absurd (none-some token (sym (ap (λ (d : DeviceState). d.token) is)
      ∙ found));
  name = ap (λ (d : DeviceState). d.book) is;
  heard = inl (ap (λ (d : DeviceState). d.token) is);
  room = λ some. absurd (omega (arith, some));
  due = λ history k found size. (
    let same = ap (due_count_for history) is in
        let none : 0 * k ≡ 0 = search arith in omega (arith, same, none),
    λ some. absurd (omega (arith, some)),
  );
}

-- the limits and the books are still those of the start
pub still_at : (now : SystemState) (limits other : Bounds) (books kept : Books) → other ≡ limits
    → kept ≡ books → MatchesRows now limits books → MatchesRows now other kept
still_at now limits other books kept same_limits same_books at =
    record {
      limits_are = at.limits_are ∙ sym same_limits;
      histories = record {
        sound = at.histories.sound;
        rows_are = at.histories.rows_are
            ∙ sym same_books;
      };
    }

false_or_true : false ≡ true → ⊥
false_or_true e = cc

-- one more page at the end
asks_more : (limit : ℕ) (run : List TraceStep) (h : TraceStep) (page : Page) (truncated done : Bool)
    → page.truncated ≡ truncated → not truncated ≡ done
    → h.event ≡ Ask 0 (Some limit) → h.reply ≡ reply.Page page → RequestsPages limit false run
    → RequestsPages limit done (run ++ h ∷ [])
asks_more limit [] h page true done cut is event reply_is on =
    (page, event, reply_is, inl (cut, sym is))
asks_more limit [] h page false done cut is event reply_is on =
    (page, event, reply_is, inr (cut, refl, sym is))
asks_more limit (first ∷ run) h page truncated done cut is event reply_is on = (
  on.0,
  on.1,
  on.2,
  ⊎_elim (λ more. inl (
    more.0,
    asks_more limit run h page truncated done cut is
        event reply_is more.1,
  )) (λ last. absurd (false_or_true last.2)) on.3,
)

-- the state after one more page
record GoneOn (now : SystemState) (book : List ℕ) (limit pages : ℕ) (done : Bool) (device next :
    DeviceState) : Type 0 where
  run : List TraceStep
  runs : Run (with_device now (new_device book)) run
  end : end_of (with_device now (new_device book)) run ≡ with_device now next
  asks : RequestsPages limit done run
  count : length run ≡ pages + 1

module _ (now : SystemState) (book : List ℕ) (limit pages : ℕ) (device next : DeviceState) (so_far :
    IsMirroring now book limit pages device) (page : Page) (answered :
    HandlesReply (reply.Page page) (report_at now device.book device.token (Some limit)) device
    next) where
  abbrev received : TraceStep
  received = record {
    event = Ask 0 (Some limit);
    reply = reply.Page page;
    after = with_device now next;
  }

  one_step : Step (with_device now device) (Ask 0 (Some limit)) (reply.Page page)
      (with_device now next)
  one_step = record { old = device; new = next; found = refl; answers = answered; next_is = refl }

  gone_on : (done : Bool) → not page.truncated ≡ done → GoneOn now book limit pages done device next
  gone_on done is = record {
    run = so_far.run ++ received ∷ [];
    runs = runs_join (with_device now (new_device book)) so_far.run (received ∷ []) so_far.runs (
      subst (λ (m : SystemState). Step m (Ask 0 (Some limit)) (reply.Page page)
          (with_device now next)) (sym so_far.end) one_step,
      tt,
    );
    end = end-append (with_device now (new_device book)) so_far.run (received ∷ []);
    asks = asks_more limit so_far.run received page page.truncated done refl is refl refl
        so_far.asks;
    count = let long = length-append so_far.run (received ∷ []) in let n = so_far.count in
        omega (arith, long, n);
  }

  next_name : next.book ≡ book
  next_name = ap (λ (d : DeviceState). d.book) answered.1 ∙ so_far.name

  -- the page of this size
  page_is : (history : BookHistory) (k : ℕ) → finite.get now.model.books book ≡ Some history
      → page_size now.model.limits.page_max (Some limit) ≡ Ok k
      → page ≡ page_for_device history device k
  page_is history k found size =
      received_is now.model.limits now.model.books device history (Some limit) k page
      (ap (λ (n : List ℕ). finite.get now.model.books n) so_far.name ∙ found) size answered.0

  last_one : (truncated : Bool) → not truncated ≡ true → truncated ≡ false
  last_one true is = sym is
  last_one false is = refl

  still_more : TruncatedPagesLeaveFewer → LastPagesLeaveNoneDue → 1 ≤ now.model.limits.page_max
      → not page.truncated ≡ false
      → (history : BookHistory) (k : ℕ) → finite.get now.model.books book ≡ Some history
      → page_size now.model.limits.page_max (Some limit) ≡ Ok k
      → (due_count_for history next + (pages + 1) * k ≡ due_count_for history (new_device book))
      × (0 < pages + 1 → 0 < due_count_for history next)
  still_more fewer nobody room more history k found size =
      let some = size_some limit now.model.limits.page_max k size room in
      let is = page_is history k found size in
      let next_is : next ≡ device_after_page device (page_for_device history device k) = answered.1
      ∙ ap (device_after_page device) is in
      let cut : (page_for_device history device k).truncated ≡ true =
      ap (λ (p : Page). p.truncated) (sym is) ∙ not_false page.truncated more in
      let same : due_count_for history next ≡ due_count_for history
      (device_after_page device (page_for_device history device k)) =
      ap (due_count_for history) next_is in
      let left : due_count_for history (device_after_page device (page_for_device history device k))
      + k ≡ due_count_for history device =
      fewer history.log (mark_of_token history.log device.token) k some cut in
      let some_left = left_due fewer nobody history device k some cut in
      let before = (so_far.due history k found size).0 in
      let times = more_times pages k in
      (omega (arith, before, left, same, times), λ any. omega (arith, same, some_left))

  pub mirror_more : PartialPagesKeepDevicesConsistent → WholePagesKeepDevicesConsistent
      → TruncatedPagesLeaveFewer → LastPagesLeaveNoneDue → 1 ≤ now.model.limits.page_max
      → not page.truncated ≡ false → IsMirroring now book limit (pages + 1) next
  mirror_more parts whole fewer nobody room more = let on = gone_on false more in record {
    run = on.run;
    runs = on.runs;
    end = on.end;
    asks = on.asks;
    count = on.count;
    right = replies_keep_devices_consistent parts whole now.model.limits now.model.books room
        (Some limit) (reply.Page page) device next answered so_far.right;
    name = next_name;
    heard = inr (record {
      token = device.token;
      page = page;
      received = subst (λ (n : List ℕ). report_at now n device.token (Some limit) ≡ Ok page)
          so_far.name answered.0;
      token_is = ap (λ (d : DeviceState). d.token) answered.1;
    });
    room = λ any. room;
    due = still_more fewer nobody room more;
  }

  pub mirror_done : LastPagesCompleteDevices → (max_pages : ℕ) → pages < max_pages
      → not page.truncated ≡ true → IsMirrorRun now book limit max_pages (record {
        device = next;
        pages = pages + 1;
        done = true;
      })
  mirror_done complete max_pages within last = let on = gone_on true last in record {
    run = on.run;
    runs = on.runs;
    end = on.end;
    asks = on.asks;
    pages = on.count;
    within = omega (arith, within);
    uses_all_pages = λ no_end. cc;
    complete = λ done. subst (IsUpToDate now.model.books) (sym answered.1)
        (complete now.model.limits now.model.books device (Some limit) page so_far.right answered.0
        (last_one page.truncated last));
  }

  pub done_pages : 1 ≤ now.model.limits.page_max → (max_pages : ℕ) → pages < max_pages
      → not page.truncated ≡ true → HasExactPageCount now book limit max_pages
      (record { device = next; pages = pages + 1; done = true })
  done_pages room max_pages within last history k found size =
      let some = size_some limit now.model.limits.page_max k size room in
      let is = page_is history k found size in
      let all : (page_for_device history device k).truncated ≡ false =
      ap (λ (p : Page). p.truncated) (sym is) ∙ last_one page.truncated last in
      let few = last_due history device k all in
      let before = (so_far.due history k found size).0 in
      let left = (so_far.due history k found size).1 in
      let times = more_times pages k in
      let m = due_count_for history (new_device book) in
      let needed : pages_needed m k ≡ pages + 1 =
      needed_is m k pages some (omega (arith, before, few, times)) (λ any. let l = left any in
      omega (arith, before, l)) in (
        omega (arith, needed, within),
        sym (test_true (pages_needed m k) max_pages
            (omega (arith, needed, within))),
      )

pub mirror_stops : (now : SystemState) (book : List ℕ) (limit max_pages : ℕ) (device : DeviceState)
    → IsMirroring now book limit max_pages device
    → IsMirrorRun now book limit max_pages (record {
      device = device;
      pages = max_pages;
      done = false;
    })
mirror_stops now book limit max_pages device so_far = record {
  run = so_far.run;
  runs = so_far.runs;
  end = so_far.end;
  asks = so_far.asks;
  pages = so_far.count;
  within = omega arith;
  uses_all_pages = λ no_end. refl;
  complete = λ done. cc;
}

pub stop_pages : (now : SystemState) (book : List ℕ) (limit max_pages : ℕ) (device : DeviceState)
    → IsMirroring now book limit max_pages device
    → HasExactPageCount now book limit max_pages (record {
      device = device;
      pages = max_pages;
      done = false;
    })
stop_pages now book limit max_pages device so_far history k found size =
    by_pages (zero_or_more max_pages)
  where
    zero_or_more : (n : ℕ) → (n ≡ 0) ⊎ (0 < n)
    zero_or_more zero = inl refl
    zero_or_more (suc n) = inr (omega arith)

    at_least_one : (q : ℕ) → max_pages ≡ 0 → max_pages < max 1 q
    at_least_one q none = omega (arith, none)

    by_needed : (needed : ℕ) → max_pages < needed → (max_pages ≡ min max_pages needed)
        × (false ≡ nat_le needed max_pages)
    by_needed needed lt = (omega (arith, lt), sym (test_false needed max_pages lt))

    by_pages : (max_pages ≡ 0) ⊎ (0 < max_pages)
        → (max_pages ≡ min max_pages (pages_needed (due_count_for history (new_device book)) k))
        × (false ≡ nat_le (pages_needed (due_count_for history (new_device book)) k) max_pages)
    by_pages (inl none) = by_needed (pages_needed (due_count_for history (new_device book)) k)
        (at_least_one (div_ceil (due_count_for history (new_device book)) k) none)
    by_pages (inr some) =
        let due = so_far.due history k found size in
        by_needed (pages_needed (due_count_for history (new_device book)) k)
        (needed_more (due_count_for history (new_device book)) k max_pages
        (size_some limit now.model.limits.page_max k size (so_far.room some))
        (λ any. let before = due.0 in let left = due.1 any in omega (arith, before, left)) some)

-- ---- a refusal is that of the initial report

token_refused : (own known old : Bool) (mark : Mark) (refusal : Refusal)
    → (refuse_unless own (BadToken OtherBook) >>= λ _. refuse_unless known (BadToken TooNew) >>=
    λ _. refuse_unless old (BadToken TooOld) >>= λ _. Ok mark) ≡ Err refusal
    → (cause : TokenCause) × (refusal ≡ BadToken cause)
token_refused true true true mark refusal e = cc
token_refused true true false mark refusal e = (TooOld, cc)
token_refused true false old mark refusal e = (TooNew, cc)
token_refused false known old mark refusal e = (OtherBook, cc)

abbrev received_at : BookHistory → Result Mark Refusal → Result ℕ Refusal → Result Page Refusal
received_at history mark size = mark >>= λ m. size >>= λ k. Ok
    (page_of history.id (report history.log m k))

-- if a report succeeded, one with another token can only be refused for its token
refused_for_token : (limits : Bounds) (histories : BookHistories) (name : List ℕ) (first :
    Option Token) (second : Token) (limit : Option ℕ) (page : Page) (refusal : Refusal)
    → report_on_histories limits histories name first limit ≡ Ok page
    → report_on_histories limits histories name (Some second) limit ≡ Err refusal
    → (cause : TokenCause) × (refusal ≡ BadToken cause)
refused_for_token limits histories name first second limit page refusal received refused =
    by_history (finite.get histories name) received refused
  where
    by_mark : (history : BookHistory) (a b : Result Mark Refusal) (size : Result ℕ Refusal)
        → requested_mark history.id (length history.log) history.horizon (Some second) ≡ b
        → received_at history a size ≡ Ok page → received_at history b size ≡ Err refusal
        → (cause : TokenCause) × (refusal ≡ BadToken cause)
    by_mark history (Ok m) (Ok n) (Ok k) is received refused =
        absurd (let no : Ok (page_of history.id (report history.log n k)) ≡ Err refusal = refused in
        cc)
    by_mark history (Ok m) (Ok n) (Err other) is received refused =
        absurd (let no : Err other ≡ Ok page = received in cc)
    by_mark history (Ok m) (Err other) size is received refused =
        let same : Err other ≡ Err refusal = refused in
        let number = length history.log in
        token_refused (second.book == history.id) (nat_le second.mark.at number
        && nat_le second.mark.base number) (nat_le history.horizon second.mark.base) second.mark
        refusal (is ∙ (let e : other ≡ refusal = cc in ap (λ r. Err r) e))
    by_mark history (Err other) b size is received refused =
        absurd (let no : Err other ≡ Ok page = received in cc)

    by_history : (o : Option BookHistory)
        → (option_map_or Ok o (Err NoSuchBook) >>= λ history. received_at history
        (requested_mark history.id (length history.log) history.horizon first)
        (page_size limits.page_max limit)) ≡ Ok page
        → (option_map_or Ok o (Err NoSuchBook) >>= λ history. received_at history
        (requested_mark history.id (length history.log) history.horizon (Some second))
        (page_size limits.page_max limit)) ≡ Err refusal
        → (cause : TokenCause) × (refusal ≡ BadToken cause)
    by_history None received refused = absurd (let no : Err NoSuchBook ≡ Ok page = received in cc)
    by_history (Some history) received refused =
        by_mark history (requested_mark history.id (length history.log) history.horizon first)
        (requested_mark history.id (length history.log) history.horizon (Some second))
        (page_size limits.page_max limit) refl received refused

-- and the token of a page is accepted while no book changed
never_refused : FreshTokensAreAccepted → (now : SystemState) → AreSoundHistories now.model.books
    → (name : List ℕ) (token : Option Token) (limit : ℕ) (page : Page) (refusal : Refusal)
    → report_at now name token (Some limit) ≡ Ok page
    → report_at now name (Some (token_of page)) (Some limit) ≡ Err refusal → ⊥
never_refused good now sound name token limit page refusal received refused =
    let bad = refused_for_token now.model.limits now.model.books name token (token_of page)
    (Some limit) page refusal received refused in
    good now.model name token (Some limit) (Some limit) page bad.0 sound received (refused
    ∙ ap (λ r. Err r) bad.1)

pub mirror_denied : FreshTokensAreAccepted → (now : SystemState) (books : Books)
    → MatchesRows now now.model.limits books
    → (book : List ℕ) (limit pages max_pages : ℕ) (device next : DeviceState) → pages < max_pages
    → IsMirroring now book limit pages device → (denied : Denied)
    → HandlesReply (denied_reply denied) (report_at now device.book device.token (Some limit))
    device next → IsMirrorDenied now book limit max_pages denied
mirror_denied good now books at book limit pages max_pages device next within so_far (Fault fault)
    answered = tt
mirror_denied good now books at book limit pages max_pages device next within so_far
    (Refused refusal) answered = (
      omega (arith, within),
      ⊎_elim
          (λ none. subst (λ (t : Option Token). report_at now book t (Some limit) ≡ Err refusal)
          none
          refused)
          (λ heard. absurd (never_refused good now at.histories.sound book heard.token limit
          heard.page
          refusal heard.received
          (subst (λ (t : Option Token). report_at now book t (Some limit) ≡ Err refusal)
          heard.token_is
          refused)))
          so_far.heard,
    )
  where
    refused : report_at now book device.token (Some limit) ≡ Err refusal
    refused = subst (λ (n : List ℕ). report_at now n device.token (Some limit) ≡ Err refusal)
        so_far.name answered.0
