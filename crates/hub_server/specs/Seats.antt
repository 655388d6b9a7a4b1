-- What a server keeps of the connection at a place, beside its link.
use Rattle.std.specs.Prelude.{◌≡◌, ◌<◌, ◌≤◌, ℕ, suc, Bool, true, false, List, [], ◌∷◌, length}
use Rattle.std.specs.Prelude.{nat_eq, if◌then◌else◌}
use Rattle.hub_server.specs.Endpoints.{EndpointEvent}
use Rattle.hub_server.specs.Endpoints.EndpointEvent.{ReadEvent, ReadNone, ReadEnd, ReadFault}
use Rattle.hub_server.specs.declared.outcome.Received.{Received}
use Rattle.hub_server.specs.declared.outcome.Received.TheVariants as received
use Rattle.hub_server.specs.declared.turn.Turn.{Turn}
use Rattle.hub_server.specs.declared.turn.Turn.TheVariants.{Asleep, Awake}

-- whether the connection may be ready, and the octets that were read of it and not fed yet
pub record SeatValue : Type 0 where
  pub turn : Turn
  pub unfed : List ℕ

-- the seat of a new connection, and of none: it waits until the endpoint reports it
abbrev pub new_seat : SeatValue
new_seat = record { turn = Asleep; unfed = [] }

-- the most octets of one read
abbrev pub most_read : ℕ
most_read = 16384

-- the most steps of one connection before the others have their turn
abbrev pub most_steps : ℕ
most_steps = 32

-- the connection may be ready, and had fewer steps than a turn has
abbrev pub HasTurn : SeatValue → Type 0
HasTurn seat = (count : ℕ) × (seat.turn ≡ Awake count) × (count < most_steps)

-- the connection isn't ready, or had all the steps of a turn
abbrev pub IsTurnOver : SeatValue → Type 0
IsTurnOver seat = HasTurn seat → ⊥

-- the connection may be ready
abbrev pub is_awake_turn : Turn → Bool
is_awake_turn Asleep = false
is_awake_turn (Awake count) = true

-- the turn with one more step
abbrev pub turn_after_step : Turn → Turn
turn_after_step Asleep = Asleep
turn_after_step (Awake count) = Awake (suc count)

-- the seat after one more step, with these octets not fed yet
abbrev pub seat_after_step : SeatValue → List ℕ → SeatValue
seat_after_step seat unfed = record { turn = turn_after_step seat.turn; unfed = unfed }

-- the seat of a connection that isn't ready
abbrev pub seat_asleep : SeatValue → SeatValue
seat_asleep seat = record { turn = Asleep; unfed = seat.unfed }

-- ---- a wait

-- a new turn for a connection that is ready, or was cut off at the end of its turn
abbrev pub turn_after_wait : Bool → Turn → Turn
turn_after_wait true turn = Awake 0
turn_after_wait false Asleep = Asleep
turn_after_wait false (Awake count) = Awake 0

abbrev pub seat_after_wait : Bool → SeatValue → SeatValue
seat_after_wait is_ready seat =
    record { turn = turn_after_wait is_ready seat.turn; unfed = seat.unfed }

-- the seats after a wait that reported these places
abbrev pub seats_after_wait : List Bool → List SeatValue → List SeatValue
seats_after_wait ready [] = []
seats_after_wait [] (seat ∷ seats) = seat ∷ seats
seats_after_wait (is_ready ∷ ready) (seat ∷ seats) =
    seat_after_wait is_ready seat ∷ seats_after_wait ready seats

-- ---- pieces

-- the octets up to the first line feed and with it, or all if there is none
abbrev pub next_piece : List ℕ → List ℕ
next_piece [] = []
next_piece (octet ∷ octets) =
    if nat_eq octet 10 then octet ∷ [] else octet ∷ next_piece octets

-- ---- reading

module _ {Endpoint : Type 0} (calls : Endpoint → EndpointEvent → Endpoint → Type 0) where
  -- octets were read, or what else was found
  abbrev pub ReadsIntoSeat :
      ℕ → SeatValue → Endpoint → Received → SeatValue → Endpoint → Type 0
  ReadsIntoSeat place before start (received.Octets count) after end =
      (octets : List ℕ) × (0 < length octets) × (length octets ≤ most_read)
      × calls start (ReadEvent place octets) end × (after ≡ seat_after_step before octets)
  ReadsIntoSeat place before start received.NoneNow after end =
      calls start (ReadNone place) end × (after ≡ seat_asleep before)
  ReadsIntoSeat place before start received.End after end = calls start (ReadEnd place) end
  ReadsIntoSeat place before start received.Failed after end = calls start (ReadFault place) end
