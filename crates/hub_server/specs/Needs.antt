-- What a connection of a server needs next.
use Rattle.std.specs.Prelude.{◌≡◌, ◌<◌, ◌-◌, ℕ, List, [], length, Option, Some, None, slice_get}
use Rattle.http_hub.specs.Hubs.{EndsAt, HubValue}
use Rattle.http_hub.specs.Links.{LinkValue}
use Rattle.hub_server.specs.Seats.{HasTurn, SeatValue, most_steps, new_seat}
use Rattle.hub_server.specs.Servers.{IsSeatedAt, ServerValue, with_seat}
use Rattle.hub_server.specs.declared.need.Need.{Need}
use Rattle.hub_server.specs.declared.need.Need.TheVariants as need
use Rattle.hub_server.specs.declared.turn.Turn.{Turn}
use Rattle.hub_server.specs.declared.turn.Turn.TheVariants.{Asleep, Awake}

-- octets are to be read: none are pending, none wait to be fed, and the session is open
pub record WantsInput (link : LinkValue) (seat : SeatValue) : Type 0 where
  pub none_pending : link.pending ≡ []
  pub none_unfed : seat.unfed ≡ []
  pub held : List ℕ
  pub open_session : link.session ≡ Some held

-- octets wait to be fed: none are pending, and the session is open
pub record WantsFeeding (link : LinkValue) (seat : SeatValue) : Type 0 where
  pub none_pending : link.pending ≡ []
  pub some_unfed : 0 < length seat.unfed
  pub held : List ℕ
  pub open_session : link.session ≡ Some held

-- these octets are to be written: they are all that are pending
pub record WantsOutput (link : LinkValue) (offered : List ℕ) : Type 0 where
  pub all_pending : offered ≡ link.pending
  pub some_pending : 0 < length offered

-- ---- what the connection at a place needs

-- the place has a connection, and its turn isn't over
pub record HasTurnAt (server : ServerValue) (place : ℕ) : Type 0 where
  pub link : LinkValue
  pub seat : SeatValue
  pub seated : IsSeatedAt server place link seat
  pub has_turn : HasTurn seat

-- the place has a connection with its turn, and octets are to be read
pub record NeedsInput (server : ServerValue) (place : ℕ) : Type 0 where
  pub link : LinkValue
  pub seat : SeatValue
  pub seated : IsSeatedAt server place link seat
  pub has_turn : HasTurn seat
  pub wanted : WantsInput link seat

-- the same, and octets that were read are to be fed
pub record NeedsFeeding (server : ServerValue) (place : ℕ) : Type 0 where
  pub link : LinkValue
  pub seat : SeatValue
  pub seated : IsSeatedAt server place link seat
  pub has_turn : HasTurn seat
  pub wanted : WantsFeeding link seat

-- the same, and the pending octets are to be written
pub record NeedsOutput (server : ServerValue) (place : ℕ) : Type 0 where
  pub link : LinkValue
  pub seat : SeatValue
  pub seated : IsSeatedAt server place link seat
  pub has_turn : HasTurn seat
  pub wanted : WantsOutput link link.pending

-- the same, and the connection is to be closed: its session is closed and no octets are pending
pub record NeedsClosing (server : ServerValue) (place : ℕ) : Type 0 where
  pub link : LinkValue
  pub seat : SeatValue
  pub seated : IsSeatedAt server place link seat
  pub has_turn : HasTurn seat
  pub session_closed : link.session ≡ None
  pub none_pending : link.pending ≡ []

-- the connection at the place needs this
abbrev pub IsNeed : ServerValue → ℕ → Need → Type 0
IsNeed server place need.Input = NeedsInput server place
IsNeed server place need.Output = NeedsOutput server place
IsNeed server place need.Feeding = NeedsFeeding server place
IsNeed server place need.Closing = NeedsClosing server place

-- the number of steps that are left of a turn
abbrev pub steps_left_of_turn : Turn → ℕ
steps_left_of_turn Asleep = 0
steps_left_of_turn (Awake count) = most_steps - count

abbrev pub steps_left_of_seat : Option SeatValue → ℕ
steps_left_of_seat None = 0
steps_left_of_seat (Some seat) = steps_left_of_turn seat.turn

abbrev pub steps_left : ServerValue → ℕ → ℕ
steps_left server place = steps_left_of_seat (slice_get server.seats place)

-- no other place changed
pub record KeepsOthers (place : ℕ) (before after : ServerValue) : Type 0 where
  pub slots : (other : ℕ) → (other ≡ place → ⊥)
      → slice_get after.hub.slots other ≡ slice_get before.hub.slots other
  pub seats : (other : ℕ) → (other ≡ place → ⊥)
      → slice_get after.seats other ≡ slice_get before.seats other
  pub time : after.time ≡ before.time
  pub listener : after.listener ≡ before.listener

-- the connection at the place is gone, and the place is free
pub record LeavesPlace (before : ServerValue) (place : ℕ) (after : ServerValue) : Type 0 where
  pub hub : HubValue
  pub ends : EndsAt place before.hub hub
  pub after_is : after ≡ with_seat before place hub new_seat
