-- Sequences of events.
use Rattle.std.proofs.Common.{◌≡◌, ℕ, ◌+◌, ◌<◌, List, [], ◌∷◌, ◌++◌, length, take, get_or, refl}
use Rattle.std.proofs.Common.{sym, ap, ◌∙◌, subst, All, arith}
use Rattle.std.proofs.lemmas.List.{take_more, map-append, length-take-le}
use Rattle.book_model.specs.Bounds.{Bounds}
use Rattle.book_model.specs.Books.{Books}
use Rattle.book_model.specs.Devices.{DeviceState}
use Rattle.std.specs.List.{zip}
use Rattle.std.proofs.lemmas.List.Elements.{All-append, All-cons}
use Rattle.book_model.specs.declared.denied.Fault.{Fault as FaultKind}
use Rattle.book_laws.specs.StoreHistories.{rows_of}
use Rattle.book_service.specs.Faults.{AllowedFaults, IfFaultReply, EventFault}
use Rattle.book_service.specs.PageCounts.{HasFewTruncatedPages}
use Rattle.book_service.specs.Promise.{TruncatedPagesAreBounded}
use Rattle.book_service.specs.declared.event.Event.{Event}
use Rattle.book_commands.specs.declared.reply.Reply.{Reply}
use Rattle.book_service.specs.Runs.{SystemState, MatchesRows, TraceStep, end_of, replies_of}
use Rattle.book_service.specs.Runs.{StepsTo, RanTo}
use Rattle.book_service.proofs.StepLemmas.{runs_join, end-append, run_limits}

pub ran_nowhere : (now : SystemState) (limits : Bounds) (books : Books) (devices : List DeviceState)
    → MatchesRows now limits books → now.devices ≡ devices → RanTo now [] [] books devices
ran_nowhere now limits books devices at device_at = record {
  run = [];
  runs = tt;
  events_are = refl;
  replies_are = refl;
  at = record { limits_are = refl; histories = at.histories };
  devices_are = device_at;
}

-- one more event at the end
pub ran_more : (now : SystemState) (limits : Bounds) (old new : Books) (device_at after :
    List DeviceState) (events : List Event) (i : ℕ) (replies more : List Reply) (event : Event) (r :
    Reply)
    → now.model.limits ≡ limits → i < length events → event ≡ get_or events i event
    → more ≡ replies ++ r ∷ []
    → RanTo now (take i events) replies old device_at
    → ((mid : SystemState) → MatchesRows mid limits old → mid.devices ≡ device_at
    → StepsTo mid event r new after)
    → RanTo now (take (i + 1) events) more new after
ran_more now limits old new device_at after events i replies more event r limits_are within is
    pushed ran happens =
    let mid : SystemState = end_of now ran.run in
    let same : mid.model.limits ≡ now.model.limits = run_limits now ran.run ran.runs in
    let one = happens mid (record { limits_are = same ∙ limits_are; histories = ran.at.histories })
    ran.devices_are in
    let h : TraceStep = record { event = event; reply = r; after = one.next } in
    let end : end_of now (ran.run ++ h ∷ []) ≡ one.next = end-append now ran.run (h ∷ []) in
    record {
      run = ran.run ++ h ∷ [];
      runs = runs_join now ran.run (h ∷ []) ran.runs (one.step, tt);
      events_are = map-append (λ (x : TraceStep). x.event) ran.run (h ∷ [])
          ∙ ap (λ es. es ++ event ∷ []) ran.events_are ∙ sym (take_more events i event within
          ∙ ap (λ e. take i events ++ e ∷ []) (sym is));
      replies_are = map-append (λ (x : TraceStep). x.reply) ran.run (h ∷ [])
          ∙ ap (λ rs. rs ++ r ∷ []) ran.replies_are ∙ sym pushed;
      at = subst (λ (m : SystemState). MatchesRows m now.model.limits new) (sym end)
          (record { limits_are = one.at.limits_are ∙ same; histories = one.at.histories });
      devices_are = ap (λ (m : SystemState). m.devices) end ∙ one.devices_are;
    }

-- ---- faults

zip_more : (events : List Event) (replies : List Reply) (event : Event) (r : Reply)
    → length events ≡ length replies → zip (events ++ event ∷ []) (replies ++ r ∷ [])
    ≡ zip events replies ++ (event, r) ∷ []
zip_more [] [] event r same = refl
zip_more [] (x ∷ replies) event r same = absurd (omega (arith, same))
zip_more (e ∷ events) [] event r same = absurd (omega (arith, same))
zip_more (e ∷ events) (x ∷ replies) event r same =
    ap (λ (ts : List (Event × Reply)). (e, x) ∷ ts) (zip_more events replies event r
    (omega (arith, same)))

-- one more reply at the end
pub faults_more : (may : FaultKind → Type 0) (events : List Event) (i : ℕ) (replies more :
    List Reply) (event : Event) (r : Reply)
    → i < length events → event ≡ get_or events i event → length replies ≡ i
    → more ≡ replies ++ r ∷ []
    → AllowedFaults may (take i events) replies → IfFaultReply r (EventFault may event)
    → AllowedFaults may (take (i + 1) events) more
faults_more may events i replies more event r within is long pushed so_far here =
    let accepted : take (i + 1) events ≡ take i events ++ event ∷ [] =
    take_more events i event within ∙ ap (λ e. take i events ++ e ∷ []) (sym is) in
    let short : length (take i events) ≡ length replies =
    length-take-le i events (omega (arith, within)) ∙ sym long in
    let P : Event × Reply → Type 0 = λ received. IfFaultReply received.1
    (EventFault may received.0) in
    subst (λ (es : List Event). All P (zip es more)) (sym accepted)
    (subst (λ (rs : List Reply). All P (zip (take i events ++ event ∷ []) rs)) (sym pushed)
    (subst (All P) (sym (zip_more (take i events) replies event r short))
    (All-append P (zip (take i events) replies) ((event, r) ∷ []) so_far (All-cons P (
      event,
      r,
    ) [] here (λ k d lt. absurd (omega (arith, lt)))))))

-- ---- the bound on pages

pub ran_few : TruncatedPagesAreBounded → (now : SystemState) (events : List Event) (replies :
    List Reply) (books : Books) (devices : List DeviceState)
    → RanTo now events replies books devices → HasFewTruncatedPages now events replies books
ran_few law now events replies books devices ran =
    subst (HasFewTruncatedPages now events replies) ran.at.histories.rows_are
    (subst (λ (rs : List Reply). HasFewTruncatedPages now events rs
    (rows_of (end_of now ran.run).model.books)) ran.replies_are
    (subst (λ (es : List Event). HasFewTruncatedPages now es (replies_of ran.run)
    (rows_of (end_of now ran.run).model.books)) ran.events_are (law now ran.run ran.runs)))
