-- What a server does at its endpoint without its handler.
use Rattle.std.specs.Prelude.{◌≡◌, ◌<◌, ◌≤◌, ◌↔◌, ℕ, Bool, true, List, [], ◌∷◌, Option}
use Rattle.std.specs.Prelude.{Some, None, IsTrue, length, if◌then◌else◌}
use Rattle.hub_server.specs.Endpoints.{EndpointEvent}
use Rattle.hub_server.specs.Endpoints.EndpointEvent.{WaitEvent, AcceptEvent, AcceptNone}
use Rattle.hub_server.specs.Endpoints.EndpointEvent.{AcceptLater}
use Rattle.hub_server.specs.Endpoints.EndpointEvent.{ReadEvent, ReadNone, ReadEnd, ReadFault}
use Rattle.hub_server.specs.Endpoints.EndpointEvent.{WriteEvent, WriteNone, WriteFault, CloseEvent}
use Rattle.hub_server.specs.Needs.{NeedsInput, NeedsOutput, WantsInput, WantsOutput}
use Rattle.hub_server.specs.Seats.{HasTurn, SeatValue, most_read, new_seat}
use Rattle.hub_server.specs.Seats.{is_awake_turn, seat_after_step, seat_asleep, seats_after_wait}
use Rattle.hub_server.specs.Servers.{IsReadyToWait, IsSeatedAt, IsServerDone}
use Rattle.hub_server.specs.Servers.{ServerValue, accepts_at, is_due, with_listener, with_seat}
use Rattle.hub_server.specs.declared.listener_state.ListenerState.{ListenerState}
use Rattle.hub_server.specs.declared.listener_state.ListenerState.TheVariants.{Idle, Ready}
use Rattle.hub_server.specs.declared.listener_state.ListenerState.TheVariants.{Deferred}
use Rattle.hub_server.specs.declared.limits.ServeLimits.{ServeLimits}
use Rattle.http_hub.specs.Hubs.{EndsAt, HubValue, IsFreeAt, OpensAt, SendsAt}
use Rattle.http_hub.specs.Links.{IsFirstTime, LinkValue, has_expired}

-- why a connection was closed
pub data EndCause : Type 0 where
  -- its input has ended
  InputEnded : EndCause
  -- reading from it failed
  ReadFailed : EndCause
  -- writing these octets to it failed
  WriteFailed : List ℕ → EndCause
  -- its session is closed, and no octets are pending
  SessionClosed : EndCause
  -- it has expired
  Expired : EndCause

-- One act of a server. A connection is named by its place and its serial number.
pub data ServerAct : Type 0 where
  -- a wait until this time at the latest reported these places, perhaps the listener, and the time
  Awaits : Option ℕ → List Bool → Bool → ℕ → ServerAct
  -- a connection was accepted
  AcceptsAt : ℕ → ℕ → ServerAct
  -- no connection waits to be accepted at this place
  FindsNoConnection : ℕ → ServerAct
  -- accepting at this place failed for now
  DefersAccepting : ℕ → ServerAct
  -- these octets were read
  ReadsFrom : ℕ → ℕ → List ℕ → ServerAct
  -- no octets are there for now
  FindsNoInput : ℕ → ℕ → ServerAct
  -- of the pending octets, these, this number was written
  WritesTo : ℕ → ℕ → List ℕ → ℕ → ServerAct
  -- the pending octets, these, aren't accepted for now
  FindsNoOutput : ℕ → ℕ → List ℕ → ServerAct
  -- the connection was closed, for this cause
  ClosesAt : ℕ → ℕ → EndCause → ServerAct

-- ---- the calls at the endpoint

abbrev pub events_of_end : ℕ → EndCause → List EndpointEvent
events_of_end place InputEnded = ReadEnd place ∷ CloseEvent place ∷ []
events_of_end place ReadFailed = ReadFault place ∷ CloseEvent place ∷ []
events_of_end place (WriteFailed offered) = WriteFault place offered ∷ CloseEvent place ∷ []
events_of_end place SessionClosed = CloseEvent place ∷ []
events_of_end place Expired = CloseEvent place ∷ []

-- the calls of an act, in order
abbrev pub events_of_act : ServerAct → List EndpointEvent
events_of_act (Awaits until ready listener time) = WaitEvent until ready listener time ∷ []
events_of_act (AcceptsAt place serial) = AcceptEvent place ∷ []
events_of_act (FindsNoConnection place) = AcceptNone place ∷ []
events_of_act (DefersAccepting place) = AcceptLater place ∷ []
events_of_act (ReadsFrom place serial octets) = ReadEvent place octets ∷ []
events_of_act (FindsNoInput place serial) = ReadNone place ∷ []
events_of_act (WritesTo place serial offered count) = WriteEvent place offered count ∷ []
events_of_act (FindsNoOutput place serial offered) = WriteNone place offered ∷ []
events_of_act (ClosesAt place serial cause) = events_of_end place cause

-- ---- why a connection is closed

-- the connection is to be closed for this cause; what was found at the endpoint is the event's
abbrev pub HasCause : ServeLimits → ServerValue → LinkValue → SeatValue → EndCause → Type 0
HasCause limits server link seat InputEnded = HasTurn seat × WantsInput link seat
HasCause limits server link seat ReadFailed = HasTurn seat × WantsInput link seat
HasCause limits server link seat (WriteFailed offered) = HasTurn seat × WantsOutput link offered
HasCause limits server link seat SessionClosed = (link.session ≡ None) × (link.pending ≡ [])
HasCause limits server link seat Expired =
    has_expired link server.time limits.patience ≡ true

-- ---- when a server may wait

-- a connection was cut off at the end of its turn
abbrev pub IsLeft : ServerValue → Type 0
IsLeft server = (place : ℕ) × (link : LinkValue) × (seat : SeatValue)
    × IsSeatedAt server place link seat × (is_awake_turn seat.turn ≡ true)

-- Not all connections were served to their end, nothing is left to do before the next wait, and the
-- wait ends when something is to be done.
pub record MayWait (limits : ServeLimits) (server : ServerValue) (until : Option ℕ)
    : Type 0 where
  pub not_done : IsServerDone limits.connections server → ⊥
  pub ready : IsReadyToWait limits server
  pub is_left : Bool
  pub left_is : IsTrue is_left ↔ IsLeft server
  pub until_is : IsFirstTime
      (λ time. is_due limits.connections limits.patience is_left server time) until

-- ---- the acts

-- the listener after a wait
abbrev pub listener_after_wait : Bool → ListenerState → ListenerState
listener_after_wait is_ready listener = if is_ready then Ready else listener

-- a connection is to be accepted, if one waits, and the place is free
pub record MayAccept (limits : ServeLimits) (server : ServerValue) (place : ℕ) : Type 0 where
  pub wanted : accepts_at limits.connections server server.time ≡ true
  pub free : IsFreeAt server.hub place

-- a connection was accepted at a place that was free
pub record AcceptsConnection
    (limits : ServeLimits) (before : ServerValue) (place serial : ℕ) (after : ServerValue)
    : Type 0 where
  pub wanted : accepts_at limits.connections before before.time ≡ true
  pub hub : HubValue
  pub opens : OpensAt place before.hub before.time hub
  pub serial_is : serial ≡ before.hub.opened
  pub after_is : after ≡ with_listener (with_seat before place hub new_seat) Ready

-- octets were read, at least one and at most as many as one read may give
pub record ReadsOctets
    (before : ServerValue) (place serial : ℕ) (octets : List ℕ) (after : ServerValue)
    : Type 0 where
  pub needs : NeedsInput before place
  pub serial_is : needs.link.serial ≡ serial
  pub some : 0 < length octets
  pub few : length octets ≤ most_read
  pub after_is : after ≡ with_seat before place before.hub (seat_after_step needs.seat octets)

-- no octets are there to be read for now
pub record FindsInputEmpty (before : ServerValue) (place serial : ℕ) (after : ServerValue)
    : Type 0 where
  pub needs : NeedsInput before place
  pub serial_is : needs.link.serial ≡ serial
  pub after_is : after ≡ with_seat before place before.hub (seat_asleep needs.seat)

-- the first of the pending octets were written, at least one
pub record WritesOctets
    (before : ServerValue) (place serial : ℕ) (offered : List ℕ) (count : ℕ)
    (after : ServerValue) : Type 0 where
  pub needs : NeedsOutput before place
  pub serial_is : needs.link.serial ≡ serial
  pub all_pending : offered ≡ needs.link.pending
  pub some : 0 < count
  pub hub : HubValue
  pub sends : SendsAt place before.hub count before.time hub
  pub after_is : after ≡ with_seat before place hub (seat_after_step needs.seat needs.seat.unfed)

-- no pending octet is accepted for now
pub record FindsOutputFull
    (before : ServerValue) (place serial : ℕ) (offered : List ℕ) (after : ServerValue)
    : Type 0 where
  pub needs : NeedsOutput before place
  pub serial_is : needs.link.serial ≡ serial
  pub all_pending : offered ≡ needs.link.pending
  pub after_is : after ≡ with_seat before place before.hub (seat_asleep needs.seat)

-- the connection was closed for this cause, and its place is free
pub record ClosesConnection
    (limits : ServeLimits) (before : ServerValue) (place serial : ℕ) (cause : EndCause)
    (after : ServerValue) : Type 0 where
  pub link : LinkValue
  pub seat : SeatValue
  pub seated : IsSeatedAt before place link seat
  pub serial_is : link.serial ≡ serial
  pub has_cause : HasCause limits before link seat cause
  pub hub : HubValue
  pub ends : EndsAt place before.hub hub
  pub after_is : after ≡ with_seat before place hub new_seat

-- the server after a wait
abbrev pub server_after_wait : ServerValue → List Bool → Bool → ℕ → ServerValue
server_after_wait server ready listener time = record {
  hub = server.hub;
  seats = seats_after_wait ready server.seats;
  listener = listener_after_wait listener server.listener;
  time = time;
}

-- the effect of an act on the server
abbrev pub DoesAct : ServeLimits → ServerValue → ServerAct → ServerValue → Type 0
DoesAct limits before (Awaits until ready listener time) after =
    MayWait limits before until × (length ready ≡ length before.seats)
    × (after ≡ server_after_wait before ready listener time)
DoesAct limits before (AcceptsAt place serial) after =
    AcceptsConnection limits before place serial after
DoesAct limits before (FindsNoConnection place) after =
    MayAccept limits before place × (after ≡ with_listener before Idle)
DoesAct limits before (DefersAccepting place) after =
    MayAccept limits before place × (after ≡ with_listener before (Deferred before.time))
DoesAct limits before (ReadsFrom place serial octets) after =
    ReadsOctets before place serial octets after
DoesAct limits before (FindsNoInput place serial) after =
    FindsInputEmpty before place serial after
DoesAct limits before (WritesTo place serial offered count) after =
    WritesOctets before place serial offered count after
DoesAct limits before (FindsNoOutput place serial offered) after =
    FindsOutputFull before place serial offered after
DoesAct limits before (ClosesAt place serial cause) after =
    ClosesConnection limits before place serial cause after
