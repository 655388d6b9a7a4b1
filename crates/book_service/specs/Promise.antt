-- The promise of the server: what holds over every run of commands and device requests, from every
-- sound state. Each definition is cited by a clause of `runs_keep_the_promise`.
use Rattle.book_laws.specs.Reasons.{CountsMatchReasons}
use Rattle.book_laws.specs.LastChanges.{IsStoredLast}
use Rattle.std.specs.Prelude.{ℕ, ◌+◌, ◌<◌, ◌≡◌, ◌⊎◌, false, List, [], ◌∷◌, ◌++◌, length, ◌↔◌}
use Rattle.std.specs.Prelude.{Option, Some, Ok, slice_get}
use Rattle.std.specs.FinMap as finite
use Rattle.book_model.specs.declared.answers.ImportTally.{ImportTally}
use Rattle.book_model.specs.declared.answers.Moved.{Moved as Numbers}
use Rattle.book_model.specs.declared.answers.Stored.{Stored}
use Rattle.book_model.specs.declared.page.Page.{Page as SyncPage}
use Rattle.book_model.specs.declared.refusal.Refusal.TheVariants.{BadToken}
use Rattle.book_model.specs.declared.refusal.TokenCause.{TokenCause}
use Rattle.book_model.specs.declared.refusal.TokenCause.TheVariants.{TooOld}
use Rattle.book_model.specs.declared.token.Token.{Token}
use Rattle.book_model.specs.Counting.{total_changes, arrived_cards, departed_cards}
use Rattle.book_model.specs.Devices.{DeviceState}
use Rattle.book_model.specs.Pages.{token_of}
use Rattle.book_model.specs.WellFormed.{IsWellFormed}
use Rattle.book_laws.specs.LogCounts.{counts_of_log}
use Rattle.book_laws.specs.EventLogs.{live}
use Rattle.book_laws.specs.ValidLogs.{IsValidLog}
use Rattle.book_laws.specs.CardMoves.{TransfersOneCard}
use Rattle.book_laws.specs.DeviceConsistency.{IsUpToDate, IsConsistentDevice}
use Rattle.book_laws.specs.HistoryExtension.{Extends}
use Rattle.book_laws.specs.RemovalCounts.{RemovalsExceedKeep}
use Rattle.book_laws.specs.StoreHistories.{BookHistory, IsSoundStoreHistory, StoreHistory, rows_of}
use Rattle.book_commands.specs.declared.command.Command.TheVariants.{MoveCard, Report, Import}
use Rattle.book_commands.specs.declared.command.Command.TheVariants.{Forget}
use Rattle.book_service.specs.declared.event.Event.{Event}
use Rattle.book_service.specs.declared.event.Event.TheVariants.{Do, Ask}
use Rattle.book_commands.specs.declared.reply.Reply.{Reply}
use Rattle.book_commands.specs.declared.reply.Reply.TheVariants.{Moved, Imported, Page, Forgot}
use Rattle.book_commands.specs.declared.reply.Reply.TheVariants.{Refused}
use Rattle.book_service.specs.PageCounts.{HasFewTruncatedPages}
use Rattle.book_service.specs.Runs.{SystemState, TraceStep, AtEachStep, Run, end_of, events_of}
use Rattle.book_service.specs.Runs.{replies_of, MatchesRows}
use Rattle.book_service.specs.Texts.{ReadsToken}

-- it holds at every step of every run from every sound state
abbrev pub Always : (SystemState → Event → Reply → SystemState → Type 0) → Type 0
Always holds = (now : SystemState) (run : List TraceStep) →
    IsSoundStoreHistory now.model → Run now run → AtEachStep holds now run

-- ---- the books

-- the next state is sound: its limits are in range, and each history is one that a book can have
abbrev pub NextStateIsSound : SystemState → Event → Reply → SystemState → Type 0
NextStateIsSound now event r next = IsSoundStoreHistory next.model

-- it holds of every book of every sound store history, and so in every state of a run
abbrev pub InEachBook : (BookHistory → Type 0) → Type 0
InEachBook holds =
    (model : StoreHistory) (name : List ℕ) (history : BookHistory) → IsSoundStoreHistory model →
    finite.get model.books name ≡ Some history → holds history

-- a card is live exactly if the last change of its UID stored it
abbrev pub LiveCardsAreLastStored : BookHistory → Type 0
LiveCardsAreLastStored history = (uid : List ℕ) (stored : Stored) →
    (finite.get (live history.log) uid ≡ Some stored) ↔ IsStoredLast history.log uid stored

-- The history is valid, its counts sum to its number of changes, and the live cards plus the
-- departures are the arrivals.
pub record CountsBalance (history : BookHistory) : Type 0 where
  pub valid_log : IsValidLog history.log
  pub changes : total_changes (counts_of_log history.log) ≡ length history.log
  pub cards : finite.len (live history.log) + departed_cards (counts_of_log history.log)
      ≡ arrived_cards (counts_of_log history.log)

-- each of the seven counts is the number of changes with its reason
abbrev pub CountsMatchChanges : BookHistory → Type 0
CountsMatchChanges history = CountsMatchReasons history.log

-- no book is lost, and its earlier history is a part of its later one
abbrev pub HistoriesExtend : SystemState → Event → Reply → SystemState → Type 0
HistoriesExtend now event r next = (name : List ℕ) (old : BookHistory) →
    finite.get now.model.books name ≡ Some old →
    (new : BookHistory) × (finite.get next.model.books name ≡ Some new) × Extends old new

-- a successful move transfers one card between two books and changes nothing else
abbrev pub MovesTransferOneCard : SystemState → Event → Reply → SystemState → Type 0
MovesTransferOneCard now event r next =
    (book uid to : List ℕ) (expect : Option ℕ) (numbers : Numbers) →
    event ≡ Do (MoveCard book uid to expect) → r ≡ Moved numbers →
    TransfersOneCard now.model.books book to uid numbers next.model.books

-- ---- the devices

-- a device that is consistent before the step is consistent after it, whatever the others are
abbrev pub DevicesStayConsistent : SystemState → Event → Reply → SystemState → Type 0
DevicesStayConsistent now event r next = (i : ℕ) (old : DeviceState) →
    slice_get now.devices i ≡ Some old → IsConsistentDevice now.model.books old →
    (new : DeviceState) × (slice_get next.devices i ≡ Some new)
    × IsConsistentDevice next.model.books new

-- when a consistent device receives a page that isn't truncated, its copy is exactly the live cards
-- of the next state, versions included
abbrev pub LastPagesComplete : SystemState → Event → Reply → SystemState → Type 0
LastPagesComplete now event r next =
    (i : ℕ) (limit : Option ℕ) (page : SyncPage) (old : DeviceState) →
    event ≡ Ask i limit → r ≡ Page page → page.truncated ≡ false →
    slice_get now.devices i ≡ Some old → IsConsistentDevice now.model.books old →
    (new : DeviceState) × (slice_get next.devices i ≡ Some new) × IsUpToDate next.model.books new

-- ---- the tokens

-- the event requests the page after this token from the book of this name
abbrev pub RequestsPageAfter : SystemState → Event → List ℕ → Option Token → Type 0
RequestsPageAfter now (Do (Report book text limit)) name token =
    (book ≡ name) × ReadsToken text (Ok token)
RequestsPageAfter now (Ask i limit) name token = (device : DeviceState) ×
    (slice_get now.devices i ≡ Some device) × (device.book ≡ name) × (device.token ≡ token)
RequestsPageAfter now event name token = ⊥

-- a successful `Forget` raised the horizon of the book of this name above `base`
pub record ForgetsAbove (name : List ℕ) (base : ℕ) (event : Event) (r : Reply) : Type 0 where
  pub upto : ℕ
  pub event_is : event ≡ Do (Forget name upto)
  pub above : base < upto
  pub dropped : ℕ
  pub reply_is : r ≡ Forgot dropped upto

-- it holds of some event of the trace and its reply
abbrev pub AtSomeStep : (Event → Reply → Type 0) → List TraceStep → Type 0
AtSomeStep holds [] = ⊥
AtSomeStep holds (h ∷ run) = holds h.event h.reply ⊎ AtSomeStep holds run

-- If a book returned a page and later in the run refuses the page's token, then only as too old,
-- and only if a `Forget` between raised the horizon above the token's base, or more cards were
-- removed after that base than the book keeps.
abbrev pub TokensExpire : Type 0
TokensExpire = (now : SystemState) (earlier later : TraceStep) (between : List TraceStep)
    (name : List ℕ) (token : Option Token) (page : SyncPage) (cause : TokenCause) →
    IsSoundStoreHistory now.model → Run now (earlier ∷ (between ++ later ∷ [])) →
    RequestsPageAfter now earlier.event name token → earlier.reply ≡ Page page →
    RequestsPageAfter (end_of earlier.after between) later.event name (Some (token_of page)) →
    later.reply ≡ Refused (BadToken cause) →
    (cause ≡ TooOld)
    × (AtSomeStep (ForgetsAbove name page.mark.base) between
    ⊎ RemovalsExceedKeep (end_of earlier.after between).model.books name page.mark.base)

-- ---- the import keys

-- After a successful import, every later successful import with the same key gets the same reply,
-- whatever its body and whatever happened between, and changes no book.
abbrev pub ImportsAreIdempotent : Type 0
ImportsAreIdempotent = (now : SystemState) (earlier later : TraceStep) (between : List TraceStep)
    (name key body other_body : List ℕ) (tally other : ImportTally) →
    Run now (earlier ∷ (between ++ later ∷ [])) →
    earlier.event ≡ Do (Import name key body) → earlier.reply ≡ Imported tally →
    later.event ≡ Do (Import name key other_body) → later.reply ≡ Imported other →
    (other ≡ tally) × (later.after.model.books ≡ (end_of earlier.after between).model.books)

-- ---- the rows

-- the rows of this state are well formed
abbrev pub HasWellFormedRows : SystemState → Type 0
HasWellFormedRows now = IsWellFormed now.model.limits (rows_of now.model.books)

-- if the rows of a state are well formed, so are those of every later state of a run
abbrev pub RowsStayWellFormed : Type 0
RowsStayWellFormed = (now : SystemState) (run : List TraceStep) → IsSoundStoreHistory now.model →
    HasWellFormedRows now → Run now run →
    AtEachStep (λ before event r after. HasWellFormedRows after) now run

-- ---- runs

-- two runs form one run exactly if the second starts at the final state of the first
abbrev pub RunsAppend : Type 0
RunsAppend = (now : SystemState) (run more : List TraceStep) →
    Run now (run ++ more) ↔ (Run now run × Run (end_of now run) more)

-- a store without books matches every state without books
abbrev pub NewStoresStart : Type 0
NewStoresStart = (now : SystemState) → now.model.books ≡ finite.empty →
    MatchesRows now now.model.limits finite.empty

-- over every run the number of truncated pages that a device receives is bounded
abbrev pub TruncatedPagesAreBounded : Type 0
TruncatedPagesAreBounded = (now : SystemState) (run : List TraceStep) → Run now run →
    HasFewTruncatedPages now (events_of run) (replies_of run) (rows_of (end_of now run).model.books)
