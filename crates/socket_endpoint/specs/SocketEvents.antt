-- What each call of an endpoint does at its system of sockets, and which sockets it has then.
use Rattle.std.specs.Prelude.{◌≡◌, ◌⊎◌, ◌<◌, ◌≤◌, ◌^◌, ◌+◌, ◌-◌, ℕ, Bool, List, length}
use Rattle.std.specs.Prelude.{[], ◌∷◌, map, replicate, set, take, slice_index_or, IsNone, IsSome}
use Rattle.std.specs.Prelude.{Option, Some, None, Result, Ok, Err}
use Rattle.std.specs.Result.{result_unwrap_or}
use Rattle.std.specs.IoError.{raw_os_error}
use Rattle.std.specs.declared.io.Error.{Error}
use Rattle.mio.specs.declared.event.event.Event.{Event}
use Rattle.hub_server.specs.Endpoints.{EndpointEvent}
use Rattle.hub_server.specs.Endpoints.EndpointEvent.{AcceptEvent, AcceptFault, AcceptLater}
use Rattle.hub_server.specs.Endpoints.EndpointEvent.{AcceptNone, CloseEvent, ReadEnd, ReadEvent}
use Rattle.hub_server.specs.Endpoints.EndpointEvent.{ReadFault, ReadNone, WaitEvent, WaitFault}
use Rattle.hub_server.specs.Endpoints.EndpointEvent.{WriteEvent, WriteFault, WriteNone}
use Rattle.hub_server.specs.declared.outcome.Accepted.{Accepted}
use Rattle.hub_server.specs.declared.outcome.Accepted.TheVariants as accepted
use Rattle.hub_server.specs.declared.outcome.Received.{Received}
use Rattle.hub_server.specs.declared.outcome.Received.TheVariants as received
use Rattle.hub_server.specs.declared.outcome.Sent.{Sent}
use Rattle.hub_server.specs.declared.outcome.Sent.TheVariants as sent
use Rattle.socket_endpoint.specs.AcceptCauses.{accept_cause}
use Rattle.socket_endpoint.specs.LingerSlots.{first_deadline}
use Rattle.socket_endpoint.specs.Lingering.{DrainsSlots, EndsAndLingers, NoneIsOver, ServesSlots}
use Rattle.socket_endpoint.specs.Lingering.{room_octets}
use Rattle.socket_endpoint.specs.PollTimes.{earlier, nanos_of, time_left}
use Rattle.socket_endpoint.specs.Reports.{event_subject, not_ready, ready_after, reports_listener}
use Rattle.socket_endpoint.specs.SocketCalls.{Repeats, SocketCall, SocketLog, logged, most_events}
use Rattle.socket_endpoint.specs.SocketCalls.SocketCall.{Accepts, Polls, ReadsClock, SendsAtOnce}
use Rattle.socket_endpoint.specs.SocketCalls.SocketCall.{Watches, WatchesListener}
use Rattle.socket_endpoint.specs.Subjects.{subject_of}
use Rattle.socket_endpoint.specs.Transfers.{ReadsFrom, WritesTo}
use Rattle.socket_endpoint.specs.declared.accept_causes.AcceptCause.{AcceptCause}
use Rattle.socket_endpoint.specs.declared.accept_causes.AcceptCause.TheVariants as cause
use Rattle.socket_endpoint.specs.declared.endpoint.EndpointOver.{EndpointOver}
use Rattle.socket_endpoint.specs.declared.lingerers.Lingerer.{Lingerer}
use Rattle.socket_endpoint.specs.declared.polling.Polling.{Polling}
use Rattle.socket_endpoint.specs.declared.subject.Subject.TheVariants as subject

-- the most tries of accepting while each connection fails before it is accepted
abbrev pub most_accepts : ℕ
most_accepts = 64

-- the most waits for sockets that linger
abbrev pub most_waits : ℕ
most_waits = 18446744073709551615

-- the socket at the place, if there is one
abbrev pub socket_at : {C : Type 0} → List (Option C) → ℕ → Option C
socket_at places place = slice_index_or places place None

-- it is a place, and no socket is there
abbrev pub IsFree : {C : Type 0} → List (Option C) → ℕ → Type 0
IsFree places place = (place < length places) × IsNone (socket_at places place)

-- a socket is there, or it isn't a place
abbrev pub IsTaken : {C : Type 0} → List (Option C) → ℕ → Type 0
IsTaken places place = IsSome (socket_at places place) ⊎ (length places ≤ place)

-- ---- which sockets an endpoint has

module _ {S L C : Type 0} where
  -- the socket at each place, if there is one
  abbrev pub places_of : EndpointOver S L C → List (Option C)
  places_of endpoint = endpoint.places.items

  -- the socket that lingers in each slot, if there is one
  abbrev pub slots_of : EndpointOver S L C → List (Option (Lingerer C))
  slots_of endpoint = endpoint.polling.lingerers.slots.items

  -- the listener and each socket stay where they are, and no other comes
  pub record KeepsSockets (old new : EndpointOver S L C) : Type 0 where
    pub listener : new.listener ≡ old.listener
    pub places : places_of new ≡ places_of old
    pub slots : slots_of new ≡ slots_of old

  -- this number of places, all free, and no socket lingers
  pub record IsNewWith (limit : ℕ) (endpoint : EndpointOver S L C) : Type 0 where
    pub places : places_of endpoint ≡ replicate limit None
    pub slots : slots_of endpoint ≡ replicate limit None

-- a try of accepting that means this
abbrev pub FailsToAccept : {L C : Type 0} → AcceptCause → L → SocketCall L C → Type 0
FailsToAccept cause listener (Accepts at (Err error)) =
    (at ≡ listener) × (accept_cause (raw_os_error error) ≡ cause)
FailsToAccept cause listener _ = ⊥

-- how long the poll may wait: until this time, or until the first of the sockets that linger is
-- given up
abbrev pub timeout_from : {S C : Type 0} → Option ℕ → Polling S C → ℕ → Option ℕ
timeout_from until polling start =
    nanos_of (time_left (earlier until (first_deadline polling.lingerers.slots.items)) start)

-- A system of sockets is represented by the log of the calls that were made of it.
module _ {S L C : Type 0} (log : S → SocketLog L C) where
  -- the calls that were made so far of the system below the endpoint
  abbrev pub log_of : EndpointOver S L C → SocketLog L C
  log_of endpoint = log endpoint.polling.system

  -- it listens: connections that wait are reported under the listener's token, and nothing else was
  -- done
  pub record Listens (polling : Polling S C) (listener : L) (places : List (Option C))
      (endpoint : EndpointOver S L C) : Type 0 where
    pub watched : log_of endpoint ≡ logged (WatchesListener listener 0 (Ok tt)) (log polling.system)
    pub listener_is : endpoint.listener ≡ listener
    pub places_are : places_of endpoint ≡ places
    pub slots_are : slots_of endpoint ≡ polling.lingerers.slots.items

  -- ---- reading and writing

  -- from the socket at the place, if there is one
  abbrev pub ReadsAt : Option C → List ℕ → Received → EndpointOver S L C → EndpointOver S L C
      → Type 0
  ReadsAt None buffer outcome old new = (outcome ≡ received.Failed) × (log_of new ≡ log_of old)
  ReadsAt (Some stream) buffer outcome old new =
      ReadsFrom stream buffer outcome (log_of old) (log_of new)

  abbrev pub WritesAt : Option C → List ℕ → Sent → EndpointOver S L C → EndpointOver S L C
      → Type 0
  WritesAt None offered outcome old new = (outcome ≡ sent.Failed) × (log_of new ≡ log_of old)
  WritesAt (Some stream) offered outcome old new =
      WritesTo stream offered outcome (log_of old) (log_of new)

  -- what was read at the place is in a buffer, and every socket stays where it is
  pub record ReadsPlace (place : ℕ) (buffer : List ℕ) (outcome : Received)
      (old new : EndpointOver S L C) : Type 0 where
    pub reads : ReadsAt (socket_at (places_of old) place) buffer outcome old new
    pub kept : KeepsSockets old new

  pub record WritesPlace (place : ℕ) (offered : List ℕ) (outcome : Sent)
      (old new : EndpointOver S L C) : Type 0 where
    pub writes : WritesAt (socket_at (places_of old) place) offered outcome old new
    pub kept : KeepsSockets old new

  -- ---- accepting

  -- the socket goes to the place, and is reported under its token
  pub record SeatsAt (place : ℕ) (stream : C) (old new : EndpointOver S L C)
      (before : SocketLog L C) : Type 0 where
    pub token : ℕ
    pub of_place : subject_of token ≡ subject.Place place
    pub watched : log_of new ≡ logged (Watches stream token (Ok tt)) before
    pub listener : new.listener ≡ old.listener
    pub places : places_of new ≡ set (places_of old) place (Some stream)
    pub slots : slots_of new ≡ slots_of old

  -- the system can't watch the socket, which is given up
  pub record CannotWatch (place : ℕ) (stream : C) (old new : EndpointOver S L C)
      (before : SocketLog L C) : Type 0 where
    pub token : ℕ
    pub error : Error
    pub of_place : subject_of token ≡ subject.Place place
    pub refused : log_of new ≡ logged (Watches stream token (Err error)) before
    pub kept : KeepsSockets old new

  -- there is no token for the place
  pub record HasNoToken (place : ℕ) (old new : EndpointOver S L C) (before : SocketLog L C)
      : Type 0 where
    pub too_great : 2 ^ 63 - 1 ≤ place
    pub same : log_of new ≡ before
    pub kept : KeepsSockets old new

  -- what becomes of a socket that the system gave
  abbrev pub SeatsOrNot : ℕ → C → Accepted → EndpointOver S L C → EndpointOver S L C
      → SocketLog L C → Type 0
  SeatsOrNot place stream accepted.Connection old new before = SeatsAt place stream old new before
  SeatsOrNot place stream accepted.NoneNow old new before = ⊥
  SeatsOrNot place stream accepted.Later old new before = CannotWatch place stream old new before
  SeatsOrNot place stream accepted.Failed old new before = HasNoToken place old new before

  -- the last try of accepting failed, and means this
  pub record StopsAccepting (cause : AcceptCause) (old new : EndpointOver S L C)
      (before : SocketLog L C) : Type 0 where
    pub call : SocketCall L C
    pub fails : FailsToAccept cause old.listener call
    pub made : log_of new ≡ logged call before
    pub kept : KeepsSockets old new

  -- the most tries were made
  pub record TriedOften (tries : ℕ) (old new : EndpointOver S L C) (before : SocketLog L C)
      : Type 0 where
    pub often : tries ≡ most_accepts
    pub same : log_of new ≡ before
    pub kept : KeepsSockets old new

  -- the system gave a socket
  pub record GetsSocket (place : ℕ) (outcome : Accepted) (old new : EndpointOver S L C)
      (before : SocketLog L C) : Type 0 where
    pub stream : C
    pub seats : SeatsOrNot place stream outcome old new
        (logged (SendsAtOnce stream) (logged (Accepts old.listener (Ok stream)) before))

  -- what comes after the tries at which a connection failed before it was accepted
  abbrev pub EndsAccepting : ℕ → ℕ → Accepted → EndpointOver S L C → EndpointOver S L C
      → SocketLog L C → Type 0
  EndsAccepting place tries accepted.Connection old new middle =
      GetsSocket place accepted.Connection old new middle
  EndsAccepting place tries accepted.NoneNow old new middle =
      StopsAccepting cause.NoneWaits old new middle
  EndsAccepting place tries accepted.Later old new middle =
      GetsSocket place accepted.Later old new middle
      ⊎ StopsAccepting cause.Shortage old new middle
      ⊎ TriedOften tries old new middle
  EndsAccepting place tries accepted.Failed old new middle =
      GetsSocket place accepted.Failed old new middle
      ⊎ StopsAccepting cause.Broken old new middle

  -- the place is free, and a connection was accepted there, or there was a cause not to
  pub record AcceptsAt (place : ℕ) (outcome : Accepted) (old new : EndpointOver S L C)
      : Type 0 where
    pub free : IsFree (places_of old) place
    pub tries : ℕ
    pub middle : SocketLog L C
    pub failed : Repeats (FailsToAccept cause.TriesAgain old.listener) tries (log_of old) middle
    pub ends : EndsAccepting place tries outcome old new middle

  -- the place has a socket, or isn't a place, and nothing is done
  pub record CannotAccept (place : ℕ) (outcome : Accepted) (old new : EndpointOver S L C)
      : Type 0 where
    pub taken : IsTaken (places_of old) place
    pub outcome_is : outcome ≡ accepted.Failed
    pub same : log_of new ≡ log_of old
    pub kept : KeepsSockets old new

  abbrev pub Accepting : ℕ → Accepted → EndpointOver S L C → EndpointOver S L C → Type 0
  Accepting place outcome old new =
      AcceptsAt place outcome old new ⊎ CannotAccept place outcome old new

  -- ---- closing

  -- The sending side of the socket is ended, and it lingers: it is given up only if this failed, if
  -- the client has ended its side, or if the system can't watch it. If the clock fails, it counts
  -- as closed at the last wait, whose time is kept.
  pub record ClosesStream (stream : C) (old new : Polling S C) : Type 0 where
    pub clock : Result ℕ Error
    pub ends : EndsAndLingers stream room_octets
        (result_unwrap_or clock old.waited_at)
        old.lingerers.slots.items new.lingerers.slots.items
        (logged (ReadsClock clock) (log old.system)) (log new.system)
    pub waited : new.waited_at ≡ old.waited_at

  abbrev pub ClosesSocket : Option C → Polling S C → Polling S C → Type 0
  ClosesSocket None old new = new ≡ old
  ClosesSocket (Some stream) old new = ClosesStream stream old new

  -- the socket at the place is closed, if there is one, and every other stays
  pub record ClosesPlace (place : ℕ) (old new : EndpointOver S L C) : Type 0 where
    pub closes : ClosesSocket (socket_at (places_of old) place) old.polling new.polling
    pub listener : new.listener ≡ old.listener
    pub places : places_of new ≡ set (places_of old) place None

  -- ---- waiting

  -- the clock was read, and the poll answered
  abbrev pub polled : Option ℕ → Polling S C → ℕ → Result (Unit {0}) Error → List Event
      → SocketLog L C
  polled until polling start answer events =
      logged (Polls most_events (timeout_from until polling start) answer events)
      (logged (ReadsClock (Ok start)) (log polling.system))

  -- The system polled, gave these events, and read the clock. Then the sockets that linger were
  -- looked at, and those whose time was over were given up. A socket that is closed while the clock
  -- fails counts from this time.
  pub record PollsUntil (until : Option ℕ) (events : List Event) (now : ℕ) (old new : Polling S C)
      : Type 0 where
    pub start : ℕ
    pub drains : DrainsSlots old.lingerers.slots.items new.lingerers.slots.items
        (logged (ReadsClock (Ok now)) (polled until old start (Ok tt) events)) (log new.system)
    pub given_up : NoneIsOver now new.lingerers.slots.items
    pub serves : ServesSlots room_octets now (map event_subject events)
        old.lingerers.slots.items new.lingerers.slots.items
        (logged (ReadsClock (Ok now)) (polled until old start (Ok tt) events)) (log new.system)
    pub waited : new.waited_at ≡ now

  -- the clock, the poll, or the clock after the poll failed
  abbrev pub FailsACall : Option ℕ → Polling S C → SocketLog L C → Type 0
  FailsACall until old after =
      ((error : Error) × (after ≡ logged (ReadsClock (Err error)) (log old.system)))
      ⊎ ((start : ℕ) × (error : Error) × (events : List Event)
      × (after ≡ polled until old start (Err error) events))
      ⊎ ((start : ℕ) × (error : Error) × (events : List Event)
      × (after ≡ logged (ReadsClock (Err error)) (polled until old start (Ok tt) events)))

  -- a call failed, and the same sockets linger as before
  pub record FailsToPoll (until : Option ℕ) (old new : Polling S C) : Type 0 where
    pub fails : FailsACall until old (log new.system)
    pub kept : new.lingerers.slots.items ≡ old.lingerers.slots.items
    pub waited : new.waited_at ≡ old.waited_at

  -- the places and the listener that the events of the poll report, and no others
  pub record WaitsUntil (until : Option ℕ) (ready : List Bool) (listener : Bool) (now : ℕ)
      (old new : EndpointOver S L C) : Type 0 where
    pub events : List Event
    pub polls : PollsUntil until events now old.polling new.polling
    pub ready_is : ready ≡ ready_after events (map not_ready ready)
    pub listener_is : listener ≡ reports_listener events
    pub listener_kept : new.listener ≡ old.listener
    pub places_kept : places_of new ≡ places_of old

  -- no socket came, went or moved
  pub record FailsToWait (until : Option ℕ) (old new : EndpointOver S L C) : Type 0 where
    pub fails : FailsToPoll until old.polling new.polling
    pub kept : KeepsSockets old new

  -- ---- the end

  -- the sockets in the list are closed, one after the other
  abbrev pub ClosesAll : List (Option C) → Polling S C → Polling S C → Type 0
  ClosesAll [] old new = new ≡ old
  ClosesAll (place ∷ places) old new =
      (middle : Polling S C) × ClosesSocket place old middle × ClosesAll places middle new

  -- this number of waits, one after the other, each at most until the first of the sockets that
  -- linger is given up
  pub data Waits : ℕ → Polling S C → Polling S C → Type 0 where
    no_wait : {polling : Polling S C} → Waits 0 polling polling
    one_wait : {count now : ℕ} {old middle new : Polling S C} (events : List Event)
        → Waits count old middle → PollsUntil None events now middle new
        → Waits (count + 1) old new

  -- no socket lingers any more, or a wait fails, or the most waits were made
  abbrev pub EndsWaiting : ℕ → Polling S C → Polling S C → Type 0
  EndsWaiting count old new =
      (IsNone (first_deadline old.lingerers.slots.items) × (new ≡ old))
      ⊎ FailsToPoll None old new
      ⊎ ((count ≡ most_waits) × (new ≡ old))

  pub record WaitsOut (old new : Polling S C) : Type 0 where
    pub count : ℕ
    pub middle : Polling S C
    pub waits : Waits count old middle
    pub ends : EndsWaiting count middle new

  -- every socket that is open is closed, and then those that linger are waited for
  pub record Finishes (endpoint : EndpointOver S L C) (system : S) : Type 0 where
    pub closed : Polling S C
    pub waited : Polling S C
    pub closes : ClosesAll (places_of endpoint) endpoint.polling closed
    pub waits : WaitsOut closed waited
    pub system_is : system ≡ waited.system

  -- ---- every call of the endpoint

  -- the octets were read into the front of a buffer
  pub record ReadsOctets (place : ℕ) (octets : List ℕ) (old new : EndpointOver S L C)
      : Type 0 where
    pub buffer : List ℕ
    pub count : ℕ
    pub octets_are : octets ≡ take count buffer
    pub reads : ReadsPlace place buffer (received.Octets count) old new

  -- with this outcome, whatever is in the buffer
  pub record ReadsNone (place : ℕ) (outcome : Received) (old new : EndpointOver S L C)
      : Type 0 where
    pub buffer : List ℕ
    pub reads : ReadsPlace place buffer outcome old new

  -- what a call does at the system of sockets, and what becomes of each socket
  abbrev pub DoesAtSockets : EndpointOver S L C → EndpointEvent → EndpointOver S L C → Type 0
  DoesAtSockets old (WaitEvent until ready listener now) new =
      WaitsUntil until ready listener now old new
  DoesAtSockets old (WaitFault until) new = FailsToWait until old new
  DoesAtSockets old (AcceptEvent place) new = Accepting place accepted.Connection old new
  DoesAtSockets old (AcceptNone place) new = Accepting place accepted.NoneNow old new
  DoesAtSockets old (AcceptLater place) new = Accepting place accepted.Later old new
  DoesAtSockets old (AcceptFault place) new = Accepting place accepted.Failed old new
  DoesAtSockets old (ReadEvent place octets) new = ReadsOctets place octets old new
  DoesAtSockets old (ReadNone place) new = ReadsNone place received.NoneNow old new
  DoesAtSockets old (ReadEnd place) new = ReadsNone place received.End old new
  DoesAtSockets old (ReadFault place) new = ReadsNone place received.Failed old new
  DoesAtSockets old (WriteEvent place offered count) new =
      WritesPlace place offered (sent.Octets count) old new
  DoesAtSockets old (WriteNone place offered) new = WritesPlace place offered sent.NoneNow old new
  DoesAtSockets old (WriteFault place offered) new = WritesPlace place offered sent.Failed old new
  DoesAtSockets old (CloseEvent place) new = ClosesPlace place old new
