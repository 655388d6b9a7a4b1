-- A resync of a store between two runs of its server: it is a run of accepted commands, and so a
-- part of the life of the store.
use Rattle.std.specs.Prelude.{ℕ, ◌≡◌, List, [], ◌∷◌, ◌++◌}
use Rattle.std.specs.FinMap as finite
use Rattle.book_model.specs.Books.{Books}
use Rattle.book_laws.specs.StoreHistories.{IsSoundStoreHistory, rows_of}
use Rattle.book_resync.specs.ResyncLaws.{HasLegalCards, IsResync}
use Rattle.book_commands.specs.declared.command.Command.TheVariants.{Put, Remove, Forget}
use Rattle.book_commands.specs.declared.reply.Reply.{Reply}
use Rattle.book_commands.specs.declared.reply.Reply.TheVariants as reply
use Rattle.book_service.specs.declared.event.Event.{Event}
use Rattle.book_service.specs.declared.event.Event.TheVariants.{Do}
use Rattle.book_service.specs.Lives.{IsLife, ServerRun}
use Rattle.book_service.specs.Promise.{HasWellFormedRows}
use Rattle.book_service.specs.Runs.{SystemState, TraceStep, AtEachStep, MatchesRows, Run, end_of}

-- ---- a resync as a run

-- a put, a removal or a forget, with the reply of one that was done
abbrev pub IsResyncStep : Event → Reply → Type 0
IsResyncStep (Do (Put book uid expect text)) (reply.Put answer) = Unit {0}
IsResyncStep (Do (Remove book uid expect)) (reply.Gone number) = Unit {0}
IsResyncStep (Do (Forget book upto)) (reply.Forgot dropped horizon) = Unit {0}
IsResyncStep event r = ⊥

-- From this state the run of such commands led to these rows, and changed no device.
pub record IsResyncRun (now : SystemState) (run : List TraceStep) (rows : Books) : Type 0 where
  pub runs : Run now run
  pub commands : AtEachStep (λ before event r after. IsResyncStep event r) now run
  pub at : MatchesRows (end_of now run) now.model.limits rows
  pub same_devices : (end_of now run).devices ≡ now.devices

-- The state is sound, its rows are well formed, and each live card is one that a text can spell.
pub record IsResyncable (now : SystemState) : Type 0 where
  pub sound : IsSoundStoreHistory now.model
  pub well_formed : HasWellFormedRows now
  pub legal : HasLegalCards (rows_of now.model.books)

-- a resync of this many pairs makes these rows of those of the state
abbrev pub ResyncsTo : SystemState → ℕ → Books → Type 0
ResyncsTo now pairs rows = IsResync now.model.limits (rows_of now.model.books) pairs rows

-- ---- laws

-- a store without books has no live card that a text can't spell
abbrev pub NewStoresHaveLegalCards : Type 0
NewStoresHaveLegalCards = HasLegalCards finite.empty

-- if each live card is one that a text can spell, so is each one after a run
abbrev pub CardsStayLegal : Type 0
CardsStayLegal = (now : SystemState) (run : List TraceStep) →
    HasLegalCards (rows_of now.model.books) → Run now run →
    HasLegalCards (rows_of (end_of now run).model.books)

-- each resync is such a run
abbrev pub ResyncsAreRuns : Type 0
ResyncsAreRuns = (now : SystemState) (pairs : ℕ) (rows : Books) →
    IsResyncable now → ResyncsTo now pairs rows →
    (run : List TraceStep) × IsResyncRun now run rows

-- a run that answered these steps, and that no crash interrupted
abbrev pub whole_run : List TraceStep → ServerRun
whole_run run = record { answered = run; interrupted = [] }

-- After each life, a resync is one more run of it.
abbrev pub ResyncsContinueLives : Type 0
ResyncsContinueLives = (now : SystemState) (runs : List ServerRun) (trace : List TraceStep)
    (pairs : ℕ) (rows : Books) →
    IsResyncable now → IsLife now runs trace → ResyncsTo (end_of now trace) pairs rows →
    (run : List TraceStep) × IsResyncRun (end_of now trace) run rows
    × IsLife now (runs ++ whole_run run ∷ []) (trace ++ run)
