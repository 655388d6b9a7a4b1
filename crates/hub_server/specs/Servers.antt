-- A server with many connections: its state, and when it is to act.
use Rattle.std.specs.Prelude.{◌≡◌, ◌+◌, ◌<◌, ◌&&◌, ◌||◌, ℕ, Bool, true, false, List, Some}
use Rattle.std.specs.Prelude.{length, not, nat_le, nat_lt, replicate, slice_get, slice_set}
use Rattle.hub_server.specs.Seats.{IsTurnOver, SeatValue, new_seat}
use Rattle.hub_server.specs.declared.listener_state.ListenerState.{ListenerState}
use Rattle.hub_server.specs.declared.listener_state.ListenerState.TheVariants.{Idle, Ready}
use Rattle.hub_server.specs.declared.listener_state.ListenerState.TheVariants.{Deferred}
use Rattle.http_hub.specs.Hubs.{HubValue, IsAt, any_expired, is_full, new_hub, open_count}
use Rattle.http_hub.specs.Links.{LinkValue, has_expired}
use Rattle.hub_server.specs.declared.limits.ServeLimits.{ServeLimits}

-- the connections, a seat for each place, whether connections wait to be accepted, and the time of
-- the last wait
pub record ServerValue : Type 0 where
  pub hub : HubValue
  pub seats : List SeatValue
  pub listener : ListenerState
  pub time : ℕ

-- a server with this many places, before the first wait
abbrev pub new_server : ℕ → ServerValue
new_server limit = record {
  hub = new_hub limit;
  seats = replicate limit new_seat;
  listener = Idle;
  time = 0;
}

-- the place has this connection and this seat
pub record IsSeatedAt (server : ServerValue) (place : ℕ) (link : LinkValue) (seat : SeatValue)
    : Type 0 where
  pub at_link : IsAt server.hub place link
  pub at_seat : slice_get server.seats place ≡ Some seat

-- every connection has a place below this number
abbrev pub AreSeatedBelow : ServerValue → ℕ → Type 0
AreSeatedBelow server end = (place : ℕ) (link : LinkValue) (seat : SeatValue)
    → IsSeatedAt server place link seat → place < end

-- the server with this hub and this seat at the place
abbrev pub with_seat : ServerValue → ℕ → HubValue → SeatValue → ServerValue
with_seat server place hub seat = record {
  hub = hub;
  seats = slice_set server.seats place seat;
  listener = server.listener;
  time = server.time;
}

-- the server with this state of its listener
abbrev pub with_listener : ServerValue → ListenerState → ServerValue
with_listener server listener =
    record { hub = server.hub; seats = server.seats; listener = listener; time = server.time }

-- ---- accepting

-- the milliseconds after which accepting is tried again
abbrev pub later_milliseconds : ℕ
later_milliseconds = 100

-- connections may wait to be accepted at this time
abbrev pub is_listener_due : ListenerState → ℕ → Bool
is_listener_due Idle time = false
is_listener_due Ready time = true
is_listener_due (Deferred since) time = nat_le (since + later_milliseconds) time

-- a place is free, and fewer than this number of connections were accepted
abbrev pub has_room : ℕ → HubValue → Bool
has_room connections hub = not (is_full hub) && nat_lt hub.opened connections

-- a connection is to be accepted at this time, if one waits
abbrev pub accepts_at : ℕ → ServerValue → ℕ → Bool
accepts_at connections server time =
    has_room connections server.hub && is_listener_due server.listener time

-- ---- waiting

-- something is to be done at this time: a connection was cut off at the end of its turn, has
-- expired, or is to be accepted
abbrev pub is_due : ℕ → ℕ → Bool → ServerValue → ℕ → Bool
is_due connections patience is_left server time =
    is_left || any_expired server.hub.slots time patience || accepts_at connections server time

-- every connection that was ready was served, until it wasn't ready any more or had its turn
abbrev pub AreTurnsOver : ServerValue → Type 0
AreTurnsOver server = (place : ℕ) (link : LinkValue) (seat : SeatValue)
    → IsSeatedAt server place link seat → IsTurnOver seat

-- no connection has expired
abbrev pub NoneExpired : ServeLimits → ServerValue → Type 0
NoneExpired limits server = (place : ℕ) (link : LinkValue) (seat : SeatValue)
    → IsSeatedAt server place link seat
    → has_expired link server.time limits.patience ≡ false

-- all connections were accepted, and none is open any more
pub record IsServerDone (connections : ℕ) (server : ServerValue) : Type 0 where
  pub all_accepted : server.hub.opened ≡ connections
  pub none_open : open_count server.hub ≡ 0

-- nothing is left to do before the next wait
pub record IsReadyToWait (limits : ServeLimits) (server : ServerValue) : Type 0 where
  pub served : AreTurnsOver server
  pub none_expired : NoneExpired limits server
  pub none_awaited : accepts_at limits.connections server server.time ≡ false

-- the server has to wait next, with a flag for each place: not all connections were served to their
-- end, and nothing is left to do before
pub record HasToWait (limits : ServeLimits) (server : ServerValue) (ready : List Bool)
    : Type 0 where
  pub places : length ready ≡ length server.seats
  pub not_done : IsServerDone limits.connections server → ⊥
  pub ready_to : IsReadyToWait limits server
