-- One more run at the end of a life.
use Rattle.std.proofs.Common.{◌≡◌, ◌<◌, ◌+◌, ℕ, inl, inr, List, [], ◌∷◌, ◌++◌, get_or, length, map}
use Rattle.std.proofs.Common.{take, refl, sym, ap, subst, ◌∙◌, arith}
use Rattle.std.proofs.Math.Logic.{∥∥₁_elim, ∥∥₁_map}
use Rattle.std.proofs.lemmas.List.{append-nil, length-append, map-append, take_more}
use Rattle.book_commands.specs.declared.reply.Reply.{Reply}
use Rattle.book_model.specs.Books.{Books}
use Rattle.book_model.specs.Devices.{DeviceState}
use Rattle.sync_core.specs.StoreModels.{StoreModel}
use Rattle.sync_core.specs.StoreCrashes.{IsSettled, RestartsFrom}
use Rattle.book_service.specs.declared.event.Event.{Event}
use Rattle.book_service.specs.Crashes.{EachAnswersFirst, AnswersFirst, LeadsTo, LeavesRun, LedTo}
use Rattle.book_service.specs.Crashes.{LivedTo, RanUntilStopped}
use Rattle.book_service.specs.Lives.{IsLife, MadeOf, ServerRun}
use Rattle.book_service.specs.Runs.{MatchesRows, Run, SystemState, TraceStep, end_of}
use Rattle.book_service.proofs.StepLemmas.{end-append, run_limits}
use Rattle.book_service.proofs.LifeLemmas.{life-append, lives_are_runs}

-- ---- one more run

pub life_more : (now : SystemState) (runs : List ServerRun) (trace : List TraceStep)
    (run : ServerRun) (made : List TraceStep) → IsLife now runs trace
    → Run (end_of now trace) run.answered
    → MadeOf run.interrupted (end_of (end_of now trace) run.answered) made
    → IsLife now (runs ++ run ∷ []) (trace ++ (run.answered ++ made))
life_more now runs trace run made life answered makes =
    life-append now runs (run ∷ []) trace (run.answered ++ made) life (
      made,
      [],
      answered,
      makes,
      refl,
      ap (λ (t : List TraceStep). run.answered ++ t)
          (sym (append-nil made)),
    )

answers_more : (asked : List (List Event)) (replied : List (List Reply)) (runs : List ServerRun)
    (events : List Event) (replies : List Reply) (run : ServerRun)
    → EachAnswersFirst asked replied runs → AnswersFirst events replies run
    → EachAnswersFirst (asked ++ events ∷ []) (replied ++ replies ∷ []) (runs ++ run ∷ [])
answers_more [] [] [] events replies run all one = (one, tt)
answers_more [] [] (r ∷ runs) events replies run all one = absurd all
answers_more [] (rs ∷ replied) runs events replies run all one = absurd all
answers_more (es ∷ asked) [] runs events replies run all one = absurd all
answers_more (es ∷ asked) (rs ∷ replied) [] events replies run all one = absurd all
answers_more (es ∷ asked) (rs ∷ replied) (r ∷ runs) events replies run all one =
    (all.0, answers_more asked replied runs events replies run all.1 one)

module _ (now : SystemState) (asked : List (List Event)) (replied : List (List Reply)) (events :
    List Event) (replies : List Reply) where
  -- the next run led from where the life had led
  lived_more : (old books : Books) (devices after : List DeviceState) (lived :
      LivedTo now asked replied old devices) → RanUntilStopped (end_of now lived.trace) events
      replies books after
      → LivedTo now (asked ++ events ∷ []) (replied ++ replies ∷ []) books after
  lived_more old books devices after lived ran =
      let more = ran.run.answered ++ ran.made in
      let end : end_of now (lived.trace ++ more) ≡ end_of (end_of now lived.trace) more =
      end-append now lived.trace more in
      let limits = run_limits now lived.trace (lives_are_runs now lived.runs lived.trace
      lived.life) in
      record {
        runs = lived.runs ++ ran.run ∷ [];
        trace = lived.trace ++ more;
        life = life_more now lived.runs lived.trace ran.run ran.made lived.life ran.answered
            ran.makes;
        answers = answers_more asked replied lived.runs events replies ran.run lived.answers
            ran.answers;
        at = subst (λ (s : SystemState). MatchesRows s now.model.limits books) (sym end)
            (record { limits_are = ran.at.limits_are ∙ limits; histories = ran.at.histories });
        devices_are = ap (λ (s : SystemState). s.devices) end ∙ ran.devices_are;
      }

  -- a run in which nothing was done
  idle_run : (state : SystemState) (books : Books) (devices : List DeviceState) (left_faults :
      AnswersFirst events replies (record { answered = []; interrupted = [] }))
      → MatchesRows state state.model.limits books → state.devices ≡ devices
      → RanUntilStopped state events replies books devices
  idle_run state books devices answers at device_at = record {
    run = record { answered = []; interrupted = [] };
    made = [];
    answers = answers;
    answered = tt;
    makes = inl refl;
    at = at;
    devices_are = device_at;
  }

module _ {S : Type 0} (model : StoreModel S) where
  -- The runs so far led to the rows of the store, which was opened last, if its premise holds; and
  -- it
  -- holds if a crash may leave anything.
  pub record LivesSoFar (first last : S) (now : SystemState) (asked : List (List Event)) (replied :
      List (List Reply)) (devices : List DeviceState) : Type 0 where
    pub limits : model.limits last ≡ model.limits first
    pub settled : IsSettled model last
    pub opened : (books : Books) → model.may_leave last books → model.premise last
    pub lived : model.premise last → ∥ LivedTo now asked replied (model.books last) devices ∥₁

  lives_left : (first last : S) (now : SystemState) (asked : List (List Event)) (replied :
      List (List Reply)) (devices : List DeviceState)
      → LivesSoFar first last now asked replied devices
      → (books : Books) → model.may_leave last books → ∥ LivedTo now asked replied books devices ∥₁
  lives_left first last now asked replied devices so_far books left =
      let premise = so_far.opened books left in
      subst (λ (b : Books). ∥ LivedTo now asked replied b devices ∥₁)
      (sym (so_far.settled premise books left)) (so_far.lived premise)

  pub lives_on : (first last : S) (now : SystemState) (asked : List (List Event)) (replied :
      List (List Reply)) (devices : List DeviceState)
      → LivesSoFar first last now asked replied devices → LedTo model now last asked replied devices
  lives_on first last now asked replied devices so_far =
      record { has = so_far.lived; leaves = lives_left first last now asked replied devices so_far }

  pub life_begun : (first : S) (now : SystemState) → model.premise first → IsSettled model first
      → MatchesRows now (model.limits first) (model.books first)
      → LivesSoFar first first now [] [] now.devices
  life_begun first now premise settled at = record {
    limits = refl;
    settled = settled;
    opened = λ books left. premise;
    lived = λ holds. ∣ record {
      runs = [];
      trace = [];
      life = refl;
      answers = tt;
      at = record { limits_are = refl; histories = at.histories };
      devices_are = refl;
    } ∣₁;
  }

  -- a run, and what a crash after it may leave
  pub lives_until : (first old ended : S) (now : SystemState) (asked : List (List Event))
      (replied : List (List Reply)) (events : List Event) (replies : List Reply)
      (before after : List DeviceState) → now.model.limits ≡ model.limits first
      → LivesSoFar first old now asked replied before
      → LeavesRun model old ended events replies before after
      → LeadsTo model now ended (asked ++ events ∷ []) (replied ++ replies ∷ []) after
  lives_until first old ended now asked replied events replies before after limits_are so_far ran
      books left = elim (ran books left) [
        | inl nothing ↦ ∥∥₁_map (lives_left first old now asked replied before so_far books
            nothing.left) (λ lived.
            let end = end_of now lived.trace in
            let idle = idle_run now asked replied events replies end books after
            (record {
              later = events;
              faults = replies;
              events_are = refl;
              replies_are = refl;
              at_most_one = omega arith;
              each = nothing.each;
              all_faults = nothing.all_faults;
            })
            (record { limits_are = refl; histories = lived.at.histories }) (lived.devices_are
            ∙ sym nothing.same_devices) in
            lived_more now asked replied events replies books books before after lived idle)
        | inr some ↦ ∥∥₁_map (so_far.lived some.0) (λ lived.
            let end = end_of now lived.trace in
            let into = some.1 end (record {
              limits_are = lived.at.limits_are ∙ limits_are ∙ sym so_far.limits;
              histories = lived.at.histories;
            }) lived.devices_are in
            lived_more now asked replied events replies (model.books old) books before after
            lived into)
      ]

  -- a run, and a restart after it
  pub lives_further : (first old ended new : S) (now : SystemState) (asked : List (List Event))
      (replied : List (List Reply)) (events : List Event) (replies : List Reply)
      (before after : List DeviceState) → now.model.limits ≡ model.limits first
      → LivesSoFar first old now asked replied before → model.limits ended ≡ model.limits old
      → LeavesRun model old ended events replies before after → RestartsFrom model ended new
      → LivesSoFar first new now (asked ++ events ∷ []) (replied ++ replies ∷ []) after
  lives_further first old ended new now asked replied events replies before after limits_are so_far
      kept ran restarts = record {
        limits = restarts.limits ∙ kept ∙ so_far.limits;
        settled = restarts.settled;
        opened = restarts.opened;
        lived = λ premise. ∥∥₁_elim (restarts.finds premise) squash₁
            (lives_until first old ended now asked replied events replies before after limits_are
            so_far ran (model.books new));
      }

  -- ---- over the first runs of a list, whose items have the events and replies

  module _ {A B : Type 0} (events_in : A → List Event) (replies_in : B → List Reply) where
    asked_more : (runs : List A) (i : ℕ) (run : A) → i < length runs → run ≡ get_or runs i run
        → map events_in (take (i + 1) runs) ≡ map events_in (take i runs) ++ events_in run ∷ []
    asked_more runs i run within is =
        ap (map events_in) (take_more runs i run within
        ∙ ap (λ x. take i runs ++ x ∷ []) (sym is))
        ∙ map-append events_in (take i runs) (run ∷ [])

    replied_more : (replied more : List B) (replies : B) → more ≡ replied ++ replies ∷ []
        → map replies_in more ≡ map replies_in replied ++ replies_in replies ∷ []
    replied_more replied more replies pushed =
        ap (map replies_in) pushed ∙ map-append replies_in replied (replies ∷ [])

    -- what holds of the runs with this one holds of one run more of the list
    over_more : (Holds : List (List Event) → List (List Reply) → Type 0) (runs : List A) (i : ℕ)
        (run : A) (replied more : List B) (replies : B) → i < length runs
        → run ≡ get_or runs i run → more ≡ replied ++ replies ∷ []
        → Holds (map events_in (take i runs) ++ events_in run ∷ [])
        (map replies_in replied ++ replies_in replies ∷ [])
        → Holds (map events_in (take (i + 1) runs)) (map replies_in more)
    over_more Holds runs i run replied more replies within is pushed holds =
        subst (λ (es : List (List Event)). Holds es (map replies_in more))
        (sym (asked_more runs i run within is))
        (subst (λ (rs : List (List Reply)). Holds (map events_in (take i runs)
        ++ events_in run ∷ []) rs) (sym (replied_more replied more replies pushed)) holds)

    pub lives_further_in : (first old ended new : S) (now : SystemState) (runs : List A) (i : ℕ)
        (run : A) (replied more : List B) (replies : B) (before after : List DeviceState)
        → i < length runs → run ≡ get_or runs i run → more ≡ replied ++ replies ∷ []
        → now.model.limits ≡ model.limits first → model.limits ended ≡ model.limits old
        → LeavesRun model old ended (events_in run) (replies_in replies) before after
        → RestartsFrom model ended new
        → LivesSoFar first old now (map events_in (take i runs)) (map replies_in replied) before
        → LivesSoFar first new now (map events_in (take (i + 1) runs)) (map replies_in more) after
    lives_further_in first old ended new now runs i run replied more replies before after within
        is pushed limits_are kept ran restarts so_far =
        over_more (λ es rs. LivesSoFar first new now es rs after) runs i run replied more replies
        within is pushed
        (lives_further first old ended new now (map events_in (take i runs))
        (map replies_in replied) (events_in run) (replies_in replies) before after limits_are
        so_far kept ran restarts)

    pub lives_until_in : (first old ended : S) (now : SystemState) (runs : List A) (i : ℕ)
        (run : A) (replied more : List B) (replies : B) (before after : List DeviceState)
        → i < length runs → run ≡ get_or runs i run → more ≡ replied ++ replies ∷ []
        → length replied ≡ i → now.model.limits ≡ model.limits first
        → LeavesRun model old ended (events_in run) (replies_in replies) before after
        → LivesSoFar first old now (map events_in (take i runs)) (map replies_in replied) before
        → LeadsTo model now ended (map events_in (take (length more) runs))
        (map replies_in more) after
    lives_until_in first old ended now runs i run replied more replies before after within is
        pushed many limits_are ran so_far =
        let count : length more ≡ i + 1 =
        ap length pushed ∙ length-append replied (replies ∷ []) ∙ ap (λ n. n + 1) many in
        subst (λ n. LeadsTo model now ended (map events_in (take n runs)) (map replies_in more)
        after) (sym count)
        (over_more (λ es rs. LeadsTo model now ended es rs after) runs i run replied more replies
        within is pushed
        (lives_until first old ended now (map events_in (take i runs)) (map replies_in replied)
        (events_in run) (replies_in replies) before after limits_are so_far ran))
