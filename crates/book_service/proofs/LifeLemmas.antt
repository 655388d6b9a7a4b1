-- Runs of a server, one after another.
use Rattle.std.proofs.Common.{◌≡◌, inl, inr, List, [], ◌∷◌, ◌++◌, sym, ap, subst, ◌∙◌}
use Rattle.std.proofs.lemmas.List.{append_assoc}
use Rattle.book_laws.specs.StoreHistories.{IsSoundStoreHistory}
use Rattle.book_commands.specs.declared.reply.Reply.{Reply}
use Rattle.book_service.specs.declared.event.Event.{Event}
use Rattle.book_service.specs.Lives.{AlwaysInLives, IsLife, LivesAreRuns, LivesStayWellFormed}
use Rattle.book_service.specs.Lives.{PartsOfLivesAreRuns, ServerRun}
use Rattle.book_service.specs.Promise.{Always, HasWellFormedRows, NextStateIsSound}
use Rattle.book_service.specs.Promise.{RowsStayWellFormed}
use Rattle.book_service.specs.Runs.{SystemState, TraceStep, AtEachStep, Run, end_of}
use Rattle.book_service.proofs.StepLemmas.{end-append, runs_join, runs_split}

pub lives_are_runs : LivesAreRuns
lives_are_runs now [] trace life = subst (Run now) (sym life) tt
lives_are_runs now (run ∷ runs) trace life =
    let made = life.0 in
    let later = life.1 in
    let middle : Run (end_of now run.answered) made =
    elim life.3 [
      | inl none ↦ subst (Run (end_of now run.answered)) (sym none) tt
      | inr all ↦
          all.0
    ] in
    let both = runs_join now run.answered made life.2 middle in
    let whole = runs_join now (run.answered ++ made) later both
    (lives_are_runs (end_of now (run.answered ++ made)) runs later life.4) in
    subst (Run now) (append_assoc run.answered made later ∙ sym life.5) whole

pub in_lives : (holds : SystemState → Event → Reply → SystemState → Type 0) → Always holds
    → AlwaysInLives holds
in_lives holds always now runs trace sound life =
    always now trace sound (lives_are_runs now runs trace life)

-- what holds at each step after it, and at the start, holds at the end
at_end : (holds : SystemState → Type 0) (now : SystemState) (trace : List TraceStep) → holds now
    → AtEachStep (λ before event r after. holds after) now trace → holds (end_of now trace)
at_end holds now [] here each = here
at_end holds now (h ∷ rest) here each = at_end holds h.after rest each.0 each.1

pub parts_are_runs : Always NextStateIsSound → PartsOfLivesAreRuns
parts_are_runs always now runs before part after sound life =
    let first = runs_split now before (part ++ after) (lives_are_runs now runs _ life) in (
      at_end (λ s. IsSoundStoreHistory s.model) now before sound (always now before sound first.0),
      (runs_split (end_of now before) part after first.1).0,
    )

pub lives_stay_well_formed : RowsStayWellFormed → LivesStayWellFormed
lives_stay_well_formed stay now runs trace sound formed life =
    at_end HasWellFormedRows now trace formed (stay now trace sound formed
    (lives_are_runs now runs trace life))

-- a life that goes on from where another one led
pub life-append : (now : SystemState) (runs others : List ServerRun) (trace more : List TraceStep)
    → IsLife now runs trace → IsLife (end_of now trace) others more
    → IsLife now (runs ++ others) (trace ++ more)
life-append now [] others trace more none then =
    subst (λ (t : List TraceStep). IsLife (end_of now t) others more
    → IsLife now others (t ++ more)) (sym none) (λ life. life) then
life-append now (first ∷ runs) others trace more life then =
    let before = first.answered ++ life.0 in
    let there : end_of now trace ≡ end_of (end_of now before) life.1 = ap (end_of now)
    (life.5 ∙ sym (append_assoc first.answered life.0 life.1)) ∙ end-append now before life.1 in
    let rest = life-append (end_of now before) runs others life.1 more life.4
    (subst (λ (s : SystemState). IsLife s others more) there then) in (
      life.0,
      life.1 ++ more,
      life.2,
      life.3,
      rest,
      ap (λ (t : List TraceStep). t ++ more) life.5 ∙ append_assoc first.answered (life.0 ++ life.1)
          more ∙ ap (λ (t : List TraceStep). first.answered ++ t) (append_assoc life.0 life.1 more),
    )
