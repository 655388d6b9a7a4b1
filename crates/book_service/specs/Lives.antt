-- The life of a store: what its server's runs make together, with crashes and restarts between
-- them.
use Rattle.std.specs.Prelude.{◌≡◌, ◌⊎◌, List, [], ◌∷◌, ◌++◌, map}
use Rattle.book_laws.specs.StoreHistories.{IsSoundStoreHistory}
use Rattle.book_commands.specs.declared.command.Command.{Command}
use Rattle.book_commands.specs.declared.reply.Reply.{Reply}
use Rattle.book_service.specs.declared.event.Event.{Event}
use Rattle.book_service.specs.declared.event.Event.TheVariants.{Do}
use Rattle.book_service.specs.Promise.{HasWellFormedRows}
use Rattle.book_service.specs.Runs.{SystemState, TraceStep, AtEachStep, Run, end_of, events_of}

-- ---- lives

-- One run of the server: the steps that it answered, and the commands that its end interrupted, by
-- a crash or a failure of the disk. There is one of these if it ended in a call that changes books,
-- else none.
pub record ServerRun : Type 0 where
  pub answered : List TraceStep
  pub interrupted : List Command

-- From this state, these steps were made of the interrupted commands: none, or all of them, with
-- replies that nobody got.
abbrev pub MadeOf : List Command → SystemState → List TraceStep → Type 0
MadeOf interrupted now made =
    (made ≡ []) ⊎ (Run now made × (events_of made ≡ map Do interrupted))

-- These runs came one after another, the first from this state, and each other from the state that
-- the one before it left. The trace has all steps that they answered, in their order, and those
-- that were made of the interrupted commands in their places.
abbrev pub IsLife : SystemState → List ServerRun → List TraceStep → Type 0
IsLife now [] trace = trace ≡ []
IsLife now (run ∷ runs) trace = (made : List TraceStep) × (later : List TraceStep)
    × Run now run.answered × MadeOf run.interrupted (end_of now run.answered) made
    × IsLife (end_of now (run.answered ++ made)) runs later
    × (trace ≡ run.answered ++ (made ++ later))

-- ---- laws

-- the steps of all runs of a life are one run
abbrev pub LivesAreRuns : Type 0
LivesAreRuns = (now : SystemState) (runs : List ServerRun) (trace : List TraceStep) →
    IsLife now runs trace → Run now trace

-- it holds at every step of every life from every sound state
abbrev pub AlwaysInLives : (SystemState → Event → Reply → SystemState → Type 0) → Type 0
AlwaysInLives holds = (now : SystemState) (runs : List ServerRun) (trace : List TraceStep) →
    IsSoundStoreHistory now.model → IsLife now runs trace → AtEachStep holds now trace

-- each part of a life is a run from a sound state, whatever restarts lie in it
abbrev pub PartsOfLivesAreRuns : Type 0
PartsOfLivesAreRuns = (now : SystemState) (runs : List ServerRun)
    (before part after : List TraceStep) → IsSoundStoreHistory now.model →
    IsLife now runs (before ++ (part ++ after)) →
    IsSoundStoreHistory (end_of now before).model × Run (end_of now before) part

-- if the rows of a sound state are well formed, so are those that a life from it leaves
abbrev pub LivesStayWellFormed : Type 0
LivesStayWellFormed = (now : SystemState) (runs : List ServerRun) (trace : List TraceStep) →
    IsSoundStoreHistory now.model → HasWellFormedRows now → IsLife now runs trace →
    HasWellFormedRows (end_of now trace)
