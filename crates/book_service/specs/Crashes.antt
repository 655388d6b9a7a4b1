-- What a crash leaves of a store that the service used: after an event, and after a run.
use Rattle.std.specs.Prelude.{◌≡◌, ◌≤◌, ◌⊎◌, List, [], ◌∷◌, ◌++◌, length, map}
use Rattle.std.specs.List.{AllByRecursion}
use Rattle.book_commands.specs.declared.command.Command.{Command}
use Rattle.book_commands.specs.declared.reply.Reply.{Reply}
use Rattle.book_model.specs.Books.{Books}
use Rattle.book_model.specs.Devices.{DeviceState}
use Rattle.sync_core.specs.StoreModels.{StoreModel}
use Rattle.sync_core.specs.StoreCrashes.{IsSettled}
use Rattle.book_service.specs.declared.event.Event.{Event}
use Rattle.book_service.specs.declared.event.Event.TheVariants.{Do, Ask}
use Rattle.book_service.specs.Faults.{IsFault}
use Rattle.book_service.specs.Lives.{IsLife, MadeOf, ServerRun}
use Rattle.book_service.specs.Runs.{MatchesRows, Run, StepsTo, SystemState, TraceStep, end_of}
use Rattle.book_service.specs.Runs.{events_of, replies_of}

-- ---- an event

module _ {S : Type 0} (model : StoreModel S) where
  -- From each state with the rows before it, the whole event leads to these rows, with some reply.
  -- A request for a page leads to none, since it changes no book.
  abbrev pub IsAfterEvent : S → Event → Books → Type 0
  IsAfterEvent old (Do command) books =
      (now : SystemState) → MatchesRows now (model.limits old) (model.books old) →
      (r : Reply) × StepsTo now (Do command) r books now.devices
  IsAfterEvent old (Ask i limit) books = ⊥

  -- A crash after an event leaves what it could leave before, or the rows after the whole event,
  -- which was done over a store whose premise held. If the premise holds, it leaves the rows as
  -- they are; else the reply is a fault, and no device changed.
  pub record LeavesEvent (old new : S) (event : Event) (r : Reply)
      (before after : List DeviceState) : Type 0 where
    pub only : (books : Books) → model.may_leave new books →
        model.may_leave old books ⊎ (model.premise old × IsAfterEvent old event books)
    pub settled : IsSettled model new
    pub answered : (books : Books) → model.may_leave new books →
        model.premise new ⊎ (IsFault r × (after ≡ before))

  -- the same of a command, which changes no device
  abbrev pub LeavesCommand : S → S → Command → Reply → Type 0
  LeavesCommand old new command r = LeavesEvent old new (Do command) r [] []

  -- A crash after a device's request leaves what it could leave before. If the premise doesn't
  -- hold, the reply is a fault, and the device is as it was.
  pub record LeavesAsk (old new : S) (r : Reply) (before after : DeviceState) : Type 0 where
    pub only : (books : Books) → model.may_leave new books → model.may_leave old books
    pub settled : IsSettled model new
    pub answered : (books : Books) → model.may_leave new books →
        model.premise new ⊎ (IsFault r × (after ≡ before))

-- ---- a run

-- The run answered the first of these events, with these replies. The next one may be a command
-- that it interrupted. That and all later events were answered with faults, each with one.
pub record AnswersFirst (events : List Event) (replies : List Reply) (run : ServerRun)
    : Type 0 where
  pub later : List Event
  pub faults : List Reply
  pub events_are : events ≡ events_of run.answered ++ (map Do run.interrupted ++ later)
  pub replies_are : replies ≡ replies_of run.answered ++ faults
  pub at_most_one : length run.interrupted ≤ 1
  pub each : length faults ≡ length (map Do run.interrupted ++ later)
  pub all_faults : AllByRecursion IsFault faults

-- From this state such a run, with what was made of the command that it interrupted, led to these
-- rows and devices.
pub record RanUntilStopped (now : SystemState) (events : List Event) (replies : List Reply)
    (books : Books) (devices : List DeviceState) : Type 0 where
  pub run : ServerRun
  pub made : List TraceStep
  pub answers : AnswersFirst events replies run
  pub answered : Run now run.answered
  pub makes : MadeOf run.interrupted (end_of now run.answered) made
  pub at : MatchesRows (end_of now (run.answered ++ made)) now.model.limits books
  pub devices_are : (end_of now (run.answered ++ made)).devices ≡ devices

module _ {S : Type 0} (model : StoreModel S) where
  -- Nothing was done: a crash left these rows before the run too, each event was answered with a
  -- fault, and no device changed.
  pub record IsLeftAsBefore (old : S) (books : Books) (events : List Event) (replies : List Reply)
      (before after : List DeviceState) : Type 0 where
    pub left : model.may_leave old books
    pub each : length replies ≡ length events
    pub all_faults : AllByRecursion IsFault replies
    pub same_devices : after ≡ before

  -- The rows that a crash leaves at the end of these events may have been left before them, and the
  -- run did nothing; or the premise held then, and from each state with the rows before them the
  -- run led to those that are left.
  abbrev pub LeavesRun : S → S → List Event → List Reply → List DeviceState → List DeviceState
      → Type 0
  LeavesRun old new events replies before after =
      (books : Books) → model.may_leave new books →
      IsLeftAsBefore old books events replies before after
      ⊎ (model.premise old × ((now : SystemState)
      → MatchesRows now (model.limits old) (model.books old) → now.devices ≡ before
      → RanUntilStopped now events replies books after))

-- ---- a life

-- each run answered the first of its events, with these replies
abbrev pub EachAnswersFirst : List (List Event) → List (List Reply) → List ServerRun → Type 0
EachAnswersFirst [] [] [] = Unit {0}
EachAnswersFirst (events ∷ more) (replies ∷ others) (run ∷ runs) =
    AnswersFirst events replies run × EachAnswersFirst more others runs
EachAnswersFirst asked replied runs = ⊥

-- From this state such runs were a life, which led to these rows and devices.
pub record LivedTo (now : SystemState) (asked : List (List Event)) (replied : List (List Reply))
    (books : Books) (devices : List DeviceState) : Type 0 where
  pub runs : List ServerRun
  pub trace : List TraceStep
  pub life : IsLife now runs trace
  pub answers : EachAnswersFirst asked replied runs
  pub at : MatchesRows (end_of now trace) now.model.limits books
  pub devices_are : (end_of now trace).devices ≡ devices

module _ {S : Type 0} (model : StoreModel S) where
  -- from this state the runs led as a life to all rows that a crash of the last store may leave
  abbrev pub LeadsTo : SystemState → S → List (List Event) → List (List Reply) → List DeviceState
      → Type 0
  LeadsTo now last asked replied devices = (books : Books) → model.may_leave last books →
      ∥ LivedTo now asked replied books devices ∥₁

  -- the same, and to the rows of that store, if its premise holds
  pub record LedTo (now : SystemState) (last : S) (asked : List (List Event))
      (replied : List (List Reply)) (devices : List DeviceState) : Type 0 where
    pub has : model.premise last → ∥ LivedTo now asked replied (model.books last) devices ∥₁
    pub leaves : LeadsTo now last asked replied devices

  -- this holds of each state with these devices and the rows of the first store, whose premise held
  abbrev pub FromTheStart : S → List DeviceState → (SystemState → Type 0) → Type 0
  FromTheStart first devices Holds = model.premise first → IsSettled model first →
      (now : SystemState) → MatchesRows now (model.limits first) (model.books first) →
      now.devices ≡ devices → Holds now

  -- from each such state the runs led as a life to the last store
  abbrev pub LivesOn : S → S → List (List Event) → List (List Reply) → List DeviceState
      → List DeviceState
      → Type 0
  LivesOn first last asked replied before after =
      FromTheStart first before (λ now. LedTo now last asked replied after)

  -- From each such state the runs led as a life to all rows that a crash of some store may have
  -- left; and this store, which has the limits of the first, didn't open again for this cause.
  pub record EndsRefused {R : Type 0} (refuses : S → R → Type 0) (first : S) (cause : R)
      (asked : List (List Event)) (replied : List (List Reply)) (before after : List DeviceState)
      : Type 0 where
    pub last : S
    pub limits : model.limits last ≡ model.limits first
    pub leads : FromTheStart first before (λ now. LeadsTo now last asked replied after)
    pub refused : refuses last cause
