-- Runs of the system of books and devices: states, steps and traces.
use Rattle.std.specs.Prelude.{ℕ, ◌≡◌, ◌<◌, List, [], ◌∷◌, map, Option, Some, slice_get, slice_set}
use Rattle.book_model.specs.Bounds.{Bounds}
use Rattle.book_model.specs.Books.{Books}
use Rattle.book_model.specs.Devices.{DeviceState}
use Rattle.book_laws.specs.Refinement.{AreHistoriesOf}
use Rattle.book_laws.specs.StoreHistories.{BookHistories, StoreHistory}
use Rattle.book_laws.specs.HistorySteps.{report_on_histories}
use Rattle.sync_core.specs.StoreModels.{StoreModel}
use Rattle.book_service.specs.declared.event.Event.{Event}
use Rattle.book_service.specs.declared.event.Event.TheVariants.{Do, Ask}
use Rattle.book_commands.specs.declared.reply.Reply.{Reply}
use Rattle.book_service.specs.DeviceReplies.{HandlesReply}
use Rattle.book_service.specs.Commands.{PerformsCommand}

-- ---- states

-- the limits, the books with their full histories, and the state of each device
pub record SystemState : Type 0 where
  pub model : StoreHistory
  pub devices : List DeviceState

-- ---- steps

-- the device with this index requested a page; no book and no other device changed
pub record DeviceAsk (now : SystemState) (i : ℕ) (limit : Option ℕ) (r : Reply) (next : SystemState)
    : Type 0 where
  pub old : DeviceState
  pub new : DeviceState
  pub found : slice_get now.devices i ≡ Some old
  pub answers : HandlesReply r
      (report_on_histories now.model.limits now.model.books old.book old.token limit)
      old new
  pub next_is : next ≡ record now { devices = slice_set now.devices i new }

-- From this state the event leads to this reply and the next state: a command is performed, which
-- changes no device, or a device requests a page, which changes no book.
abbrev pub Step : SystemState → Event → Reply → SystemState → Type 0
Step now (Do command) r next = (books : BookHistories) × PerformsCommand now.model command r books
    × (next ≡ record now { model = record now.model { books = books } })
Step now (Ask i limit) r next = DeviceAsk now i limit r next

-- ---- runs

-- an event, its reply and the state after it
pub record TraceStep : Type 0 where
  pub event : Event
  pub reply : Reply
  pub after : SystemState

-- it holds of every step of the trace, from this state on
abbrev pub AtEachStep : (SystemState → Event → Reply → SystemState → Type 0)
    → SystemState → List TraceStep → Type 0
AtEachStep holds now [] = Unit {0}
AtEachStep holds now (h ∷ run) =
    holds now h.event h.reply h.after × AtEachStep holds h.after run

-- every entry of the trace is a step
abbrev pub Run : SystemState → List TraceStep → Type 0
Run now run = AtEachStep Step now run

-- the final state of a run
abbrev pub end_of : SystemState → List TraceStep → SystemState
end_of now [] = now
end_of now (h ∷ run) = end_of h.after run

-- the events of a run, and their replies
abbrev pub events_of : List TraceStep → List Event
events_of run = map (λ (h : TraceStep). h.event) run

abbrev pub replies_of : List TraceStep → List Reply
replies_of run = map (λ (h : TraceStep). h.reply) run

-- ---- states and the rows of a store

-- the state has these limits, and sound histories with these rows
pub record MatchesRows (now : SystemState) (limits : Bounds) (books : Books) : Type 0 where
  pub limits_are : now.model.limits ≡ limits
  pub histories : AreHistoriesOf books now.model.books

-- if the premise of the store holds, this holds from each state that matched its old rows
abbrev pub FromEachState : {S : Type 0} → StoreModel S → S → S → (SystemState → Type 0) → Type 0
FromEachState model old new holds =
    model.premise new → (now : SystemState) → MatchesRows now (model.limits old) (model.books old) →
    holds now

-- this event and reply are a step to a state with these rows and devices
pub record StepsTo (now : SystemState) (event : Event) (r : Reply)
    (books : Books) (devices : List DeviceState) : Type 0 where
  pub next : SystemState
  pub step : Step now event r next
  pub at : MatchesRows next now.model.limits books
  pub devices_are : next.devices ≡ devices

-- these events and replies are a run to a state with these rows and devices
pub record RanTo (now : SystemState) (events : List Event) (replies : List Reply)
    (books : Books) (devices : List DeviceState) : Type 0 where
  pub run : List TraceStep
  pub runs : Run now run
  pub events_are : events_of run ≡ events
  pub replies_are : replies_of run ≡ replies
  pub at : MatchesRows (end_of now run) now.model.limits books
  pub devices_are : (end_of now run).devices ≡ devices

-- the event's device, if it has one, is below `count`
abbrev pub NamesDeviceBelow : ℕ → Event → Type 0
NamesDeviceBelow count (Do command) = Unit {0}
NamesDeviceBelow count (Ask i limit) = i < count
