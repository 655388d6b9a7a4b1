-- What the events of a run led to, whatever a crash leaves at their end.
use Rattle.std.proofs.Common.{◌≡◌, ◌<◌, ◌+◌, ℕ, inl, inr, ◌⊎◌, List, [], ◌∷◌, ◌++◌, get_or, length}
use Rattle.std.proofs.Common.{map, take, refl, sym, ap, ◌∙◌, subst, arith}
use Rattle.std.specs.List.{AllByRecursion}
use Rattle.std.proofs.lemmas.List.{append-nil, append_assoc, length-append, take_more}
use Rattle.book_commands.specs.declared.command.Command.{Command}
use Rattle.book_commands.specs.declared.reply.Reply.{Reply}
use Rattle.book_model.specs.Bounds.{Bounds}
use Rattle.book_model.specs.Books.{Books}
use Rattle.book_model.specs.Devices.{DeviceState}
use Rattle.sync_core.specs.StoreModels.{StoreModel}
use Rattle.book_service.specs.declared.event.Event.{Event}
use Rattle.book_service.specs.declared.event.Event.TheVariants.{Do, Ask}
use Rattle.book_service.specs.Crashes.{IsAfterEvent, IsLeftAsBefore, LeavesEvent, LeavesRun}
use Rattle.book_service.specs.Crashes.{RanUntilStopped}
use Rattle.book_service.specs.Faults.{IsFault}
use Rattle.book_service.specs.Runs.{MatchesRows, RanTo, StepsTo, SystemState, TraceStep, end_of}
use Rattle.book_service.specs.Runs.{events_of, replies_of}
use Rattle.book_service.proofs.StepLemmas.{end-append, run_limits}

all_more : (rs : List Reply) (r : Reply) → AllByRecursion IsFault rs → IsFault r
    → AllByRecursion IsFault (rs ++ r ∷ [])
all_more [] r all fault = (fault, tt)
all_more (x ∷ rs) r all fault = (all.0, all_more rs r all.1 fault)

-- one more fault for one more event
same_more : (events : List Event) (replies : List Reply) (event : Event) (r : Reply)
    → length replies ≡ length events → length (replies ++ r ∷ []) ≡ length (events ++ event ∷ [])
same_more events replies event r same =
    let left : length (replies ++ r ∷ []) ≡ length replies + 1 = length-append replies (r ∷ []) in
    let right : length (events ++ event ∷ []) ≡ length events + 1 =
    length-append events (event ∷ []) in
    omega (arith, same, left, right)

one_more_each : (first later : List Event) (faults : List Reply) (event : Event) (r : Reply)
    → length faults ≡ length (first ++ later)
    → length (faults ++ r ∷ []) ≡ length (first ++ (later ++ event ∷ []))
one_more_each first later faults event r same = same_more (first ++ later) faults event r same
    ∙ ap length (append_assoc first later (event ∷ []))

-- all events were answered, and none was interrupted
pub ran_whole : (now : SystemState) (events : List Event) (replies : List Reply) (books : Books)
    (devices : List DeviceState) → RanTo now events replies books devices
    → RanUntilStopped now events replies books devices
ran_whole now events replies books devices ran = record {
  run = record { answered = ran.run; interrupted = [] };
  made = [];
  answers = record {
    later = [];
    faults = [];
    events_are = sym ran.events_are ∙ sym (append-nil _);
    replies_are = sym ran.replies_are ∙ sym (append-nil _);
    at_most_one = omega arith;
    each = refl;
    all_faults = tt;
  };
  answered = ran.runs;
  makes = inl refl;
  at = subst (λ (t : List TraceStep). MatchesRows (end_of now t) now.model.limits books)
      (sym (append-nil ran.run)) ran.at;
  devices_are = ap (λ (t : List TraceStep). (end_of now t).devices) (append-nil ran.run)
      ∙ ran.devices_are;
}

-- one more event was answered with a fault
later_fault : (now : SystemState) (events : List Event) (replies : List Reply) (books : Books)
    (devices after : List DeviceState) (event : Event) (r : Reply) → IsFault r → after ≡ devices
    → RanUntilStopped now events replies books devices
    → RanUntilStopped now (events ++ event ∷ []) (replies ++ r ∷ []) books after
later_fault now events replies books devices after event r fault same ran = record {
  run = ran.run;
  made = ran.made;
  answers = record {
    later = ran.answers.later ++ event ∷ [];
    faults = ran.answers.faults ++ r ∷ [];
    events_are = ap (λ es. es ++ event ∷ []) ran.answers.events_are
        ∙ append_assoc (events_of ran.run.answered) (map Do ran.run.interrupted
        ++ ran.answers.later) (event ∷ []) ∙ ap (λ es. events_of ran.run.answered ++ es)
        (append_assoc (map Do ran.run.interrupted) ran.answers.later (event ∷ []));
    replies_are = ap (λ rs. rs ++ r ∷ []) ran.answers.replies_are
        ∙ append_assoc (replies_of ran.run.answered) ran.answers.faults (r ∷ []);
    at_most_one = ran.answers.at_most_one;
    each = one_more_each (map Do ran.run.interrupted) ran.answers.later ran.answers.faults event r
        ran.answers.each;
    all_faults = all_more ran.answers.faults r ran.answers.all_faults fault;
  };
  answered = ran.answered;
  makes = ran.makes;
  at = ran.at;
  devices_are = ran.devices_are ∙ sym same;
}

-- the next command was made, and its reply was lost
interrupted : (now : SystemState) (limits : Bounds) (events : List Event) (replies : List Reply)
    (old books : Books) (devices after : List DeviceState) (command : Command) (r : Reply)
    → now.model.limits ≡ limits → IsFault r → after ≡ devices
    → RanTo now events replies old devices → ((mid : SystemState) → MatchesRows mid limits old
    → (lost : Reply) × StepsTo mid (Do command) lost books mid.devices)
    → RanUntilStopped now (events ++ Do command ∷ []) (replies ++ r ∷ []) books after
interrupted now limits events replies old books devices after command r limits_are fault same ran
    makes =
    let mid : SystemState = end_of now ran.run in
    let kept : mid.model.limits ≡ now.model.limits = run_limits now ran.run ran.runs in
    let one = makes mid (record { limits_are = kept ∙ limits_are; histories = ran.at.histories }) in
    let h : TraceStep = record { event = Do command; reply = one.0; after = one.1.next } in
    let end : end_of now (ran.run ++ h ∷ []) ≡ one.1.next = end-append now ran.run (h ∷ []) in
    record {
      run = record { answered = ran.run; interrupted = command ∷ [] };
      made = h ∷ [];
      answers = record {
        later = [];
        faults = r ∷ [];
        events_are = ap (λ es. es ++ Do command ∷ []) (sym ran.events_are);
        replies_are = ap (λ rs. rs ++ r ∷ []) (sym ran.replies_are);
        at_most_one = omega arith;
        each = refl;
        all_faults = (fault, tt);
      };
      answered = ran.runs;
      makes = inr ((one.1.step, tt), refl);
      at = subst (λ (m : SystemState). MatchesRows m now.model.limits books) (sym end)
          (record { limits_are = one.1.at.limits_are ∙ kept; histories = one.1.at.histories });
      devices_are = ap (λ (m : SystemState). m.devices) end ∙ one.1.devices_are ∙ ran.devices_are
          ∙ sym same;
    }

module _ {S : Type 0} (model : StoreModel S) where
  -- no event yet
  pub run_begun : (first : S) (devices : List DeviceState) → (books : Books)
      → model.may_leave first books → IsLeftAsBefore model first books [] [] devices devices
  run_begun first devices books left = record {
    left = left;
    each = refl;
    all_faults = tt;
    same_devices = refl;
  }

  module _ (first old new : S) (events : List Event) (replies : List Reply) (before devices after :
      List DeviceState) (event : Event) (r : Reply)
      (limits_are : model.limits old ≡ model.limits first) (terms : model.premise old
      → model.premise first)
      (ran : model.premise old → (state : SystemState)
      → MatchesRows state (model.limits first) (model.books first) → state.devices ≡ before
      → RanTo state events replies (model.books old) devices)
      (ran_on : model.premise new → (state : SystemState)
      → MatchesRows state (model.limits first) (model.books first) → state.devices ≡ before
      → RanTo state (events ++ event ∷ []) (replies ++ r ∷ []) (model.books new) after)
      (terms_on : model.premise new → model.premise old) (step : LeavesEvent model old new event r
      devices after) where
    abbrev LeavesAt : Books → Type 0
    LeavesAt books = IsLeftAsBefore model first books (events ++ event ∷ []) (replies ++ r ∷ [])
        before after
        ⊎ (model.premise first × ((state : SystemState)
        → MatchesRows state (model.limits first) (model.books first) → state.devices ≡ before
        → RanUntilStopped state (events ++ event ∷ []) (replies ++ r ∷ []) books after))

    -- the premise holds: the event was answered
    whole : (books : Books) → model.may_leave new books → model.premise new → LeavesAt books
    whole books left premise =
        let same = step.settled premise books left in
        inr (
          terms (terms_on premise),
          λ state at device_at. ran_whole state (events ++ event ∷ []) (replies ++ r ∷ []) books
              after
              (subst (λ (b : Books). RanTo state (events ++ event ∷ []) (replies ++ r ∷ []) b after)
              (sym same) (ran_on premise state at device_at)),
        )

    -- the reply is a fault, and a crash left it before
    faulted : (books : Books) → IsFault r → after ≡ devices
        → IsLeftAsBefore model first books events replies before devices
        ⊎ (model.premise first × ((state : SystemState)
        → MatchesRows state (model.limits first) (model.books first) → state.devices ≡ before
        → RanUntilStopped state events replies books devices)) → LeavesAt books
    faulted books fault same (inl nothing) =
        inl (record {
          left = nothing.left;
          each = same_more events replies event r nothing.each;
          all_faults = all_more replies r nothing.all_faults fault;
          same_devices = same
              ∙ nothing.same_devices;
        })
    faulted books fault same (inr some) =
        inr (
          some.0,
          λ state at device_at. later_fault state events replies books devices after
              event r fault same (some.1 state at device_at),
        )

    -- the event was made, and its reply was lost
    lost : (e : Event) → event ≡ e → (books : Books) → IsFault r → after ≡ devices
        → model.premise old → IsAfterEvent model old e books → LeavesAt books
    lost (Do command) is books fault same premise makes = inr (
      terms premise,
      λ state at device_at. subst (λ (e : Event). RanUntilStopped state (events ++ e ∷ [])
          (replies ++ r ∷ []) books after) (sym is)
          (interrupted state (model.limits old) events replies (model.books old) books devices after
          command r (at.limits_are ∙ sym limits_are) fault same (ran premise state at device_at)
          makes),
    )
    lost (Ask i limit) is books fault same premise makes = absurd makes

    pub one_more_run : LeavesRun model first old events replies before devices
        → LeavesRun model first new (events ++ event ∷ []) (replies ++ r ∷ []) before after
    one_more_run so_far books left = elim (step.answered books left) [
      | inl premise ↦ whole books left premise
      | inr fault ↦ elim (step.only books left) [
        | inl earlier ↦ faulted books fault.0 fault.1 (so_far books earlier)
        | inr made ↦ lost event refl books fault.0 fault.1 made.0 made.1
      ]
    ]

-- the same over the first events of a list
pub ran_further : {S : Type 0} (model : StoreModel S) (first old new : S) (events : List Event) (i :
    ℕ) (replies more : List Reply) (before devices after : List DeviceState) (event : Event) (r :
    Reply)
    → i < length events → event ≡ get_or events i event → more ≡ replies ++ r ∷ []
    → model.limits old ≡ model.limits first → (model.premise old → model.premise first)
    → (model.premise old → (state : SystemState)
    → MatchesRows state (model.limits first) (model.books first) → state.devices ≡ before
    → RanTo state (take i events) replies (model.books old) devices)
    → (model.premise new → (state : SystemState)
    → MatchesRows state (model.limits first) (model.books first) → state.devices ≡ before
    → RanTo state (take (i + 1) events) more (model.books new) after)
    → (model.premise new → model.premise old) → LeavesEvent model old new event r devices after
    → LeavesRun model first old (take i events) replies before devices
    → LeavesRun model first new (take (i + 1) events) more before after
ran_further model first old new events i replies more before devices after event r within is pushed
    limits_are terms ran ran_on terms_on step so_far =
    let accepted : take (i + 1) events ≡ take i events ++ event ∷ [] =
    take_more events i event within ∙ ap (λ e. take i events ++ e ∷ []) (sym is) in
    let whole : model.premise new → (state : SystemState)
    → MatchesRows state (model.limits first) (model.books first) → state.devices ≡ before
    → RanTo state (take i events ++ event ∷ []) (replies ++ r ∷ []) (model.books new) after =
    λ premise state at device_at. subst (λ (es : List Event). RanTo state es (replies ++ r ∷ [])
    (model.books new) after) accepted
    (subst (λ (rs : List Reply). RanTo state (take (i + 1) events) rs (model.books new) after)
    pushed (ran_on premise state at device_at)) in
    subst (λ (es : List Event). LeavesRun model first new es more before after) (sym accepted)
    (subst (λ (rs : List Reply). LeavesRun model first new (take i events ++ event ∷ []) rs before
    after) (sym pushed)
    (one_more_run model first old new (take i events) replies before devices after event r
    limits_are terms ran whole terms_on step so_far))
