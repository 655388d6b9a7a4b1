-- When a wait ends.
use Rattle.std.proofs.Common.{◌≡◌, ◌∙◌, ◌==◌, ◌<◌, ◌+◌, ◌&&◌, ◌||◌, ℕ, Bool, true, false, List}
use Rattle.std.proofs.Common.{Option, Some, refl, ap, subst, arith, get_or, length, slice_get}
use Rattle.std.proofs.Common.{IsTrue}
use Rattle.std.proofs.lemmas.Bool.{eqb-false, eqb-true}
use Rattle.http_hub.specs.Hubs.{IsAt, IsOpenAt, any_expired}
use Rattle.http_hub.specs.Links.{IsFirstTime, LinkValue}
use Rattle.http_hub.proofs.ExpiryLemmas.{first_time_as}
use Rattle.hub_server.specs.EndpointRuns.{EndpointRelation, FailsAtWait, ReachesByWait}
use Rattle.hub_server.specs.Endpoints.EndpointEvent.{WaitEvent, WaitFault}
use Rattle.hub_server.specs.Seats.{SeatValue, is_awake_turn}
use Rattle.hub_server.specs.ServerActs.{IsLeft, MayWait, server_after_wait}
use Rattle.hub_server.specs.Servers.{AreSeatedBelow, IsReadyToWait, IsSeatedAt, IsServerDone}
use Rattle.hub_server.specs.Servers.{ServerValue, has_room, is_due, is_listener_due}
use Rattle.hub_server.specs.declared.endpoint_fault.EndpointFault.{EndpointFault}
use Rattle.hub_server.specs.declared.endpoint_fault.EndpointFault.TheVariants.{Wait}
use Rattle.hub_server.specs.declared.limits.ServeLimits.{ServeLimits}
use Rattle.hub_server.proofs.NeedLemmas.{read_at, same_seat}

-- ---- times

or_false : (b : Bool) → (b || false) ≡ b
or_false true = refl
or_false false = refl

due_with_room : (room : Bool) (a b : Bool) → room ≡ true → (a || (room && b)) ≡ (a || b)
due_with_room true a b is = refl
due_with_room false a b is = absurd (cc is)

due_without_room : (room : Bool) (a b : Bool) → room ≡ false → (a || (room && b)) ≡ a
due_without_room true a b is = absurd (cc is)
due_without_room false a b is = or_false a

-- a connection expires, or accepting is due
pub due_later : (connections patience : ℕ) (server : ServerValue) (is_left : Bool) (time : Option ℕ)
    → is_left ≡ false → has_room connections server.hub ≡ true
    → IsFirstTime (λ now. any_expired server.hub.slots now patience
    || is_listener_due server.listener now) time
    → IsFirstTime (λ now. is_due connections patience is_left server now) time
due_later connections patience server true time is room first = absurd (cc is)
due_later connections patience server false time is room first =
    first_time_as (λ now. any_expired server.hub.slots now patience
    || is_listener_due server.listener now) (λ now. is_due connections patience false server
    now) time
    (λ now. due_with_room (has_room connections server.hub) (any_expired server.hub.slots now
    patience) (is_listener_due server.listener now) room) first

-- a connection expires, and none can be accepted
pub due_by_expiry : (connections patience : ℕ) (server : ServerValue) (is_left : Bool) (time :
    Option ℕ) → is_left ≡ false → has_room connections server.hub ≡ false
    → IsFirstTime (λ now. any_expired server.hub.slots now patience) time
    → IsFirstTime (λ now. is_due connections patience is_left server now) time
due_by_expiry connections patience server true time is room first = absurd (cc is)
due_by_expiry connections patience server false time is room first =
    first_time_as (λ now. any_expired server.hub.slots now patience)
    (λ now. is_due connections patience false server now) time
    (λ now. due_without_room (has_room connections server.hub) (any_expired server.hub.slots now
    patience) (is_listener_due server.listener now) room) first

-- ---- connections that were cut off

-- no connection up to the place was cut off
abbrev pub NoneLeftBelow : ServerValue → ℕ → Type 0
NoneLeftBelow server count = (place : ℕ) (link : LinkValue) (seat : SeatValue) → place < count
    → IsSeatedAt server place link seat → is_awake_turn seat.turn ≡ true → ⊥

left_by : (server : ServerValue) (place : ℕ) → NoneLeftBelow server place
    → ((link : LinkValue) (seat : SeatValue) → IsSeatedAt server place link seat
    → is_awake_turn seat.turn ≡ true → ⊥)
    → (other : ℕ) (link : LinkValue) (seat : SeatValue) (t : Bool) → (other == place) ≡ t
    → other < place + 1 → IsSeatedAt server other link seat → is_awake_turn seat.turn ≡ true → ⊥
left_by server place below here other link seat true e within seated awake =
    here link seat (subst (λ n. IsSeatedAt server n link seat) (eqb-true other place e) seated)
    awake
left_by server place below here other link seat false e within seated awake =
    let apart : other ≡ place → ⊥ = eqb-false other place e in
    below other link seat (omega (arith, within, apart)) seated awake

-- one more place was not cut off
pub none_left_more : (server : ServerValue) (place : ℕ) → NoneLeftBelow server place
    → ((link : LinkValue) (seat : SeatValue) → IsSeatedAt server place link seat
    → is_awake_turn seat.turn ≡ true → ⊥) → NoneLeftBelow server (place + 1)
none_left_more server place below here other link seat within seated awake =
    left_by server place below here other link seat (other == place) refl within seated awake

-- the connection of the place is asleep
pub asleep_there : (seen a : ServerValue) (place : ℕ) (link : LinkValue) (seat read :
    SeatValue) (test : Bool) → seen ≡ a → IsSeatedAt a place link seat
    → read ≡ get_or seen.seats place read
    → test ≡ is_awake_turn read.turn → test ≡ false
    → is_awake_turn seat.turn ≡ true → ⊥
asleep_there seen a place link seat read test same seated is tells asleep awake =
    let found : slice_get a.seats place ≡ Some read =
    read_at seen a place seat read same seated.at_seat is in
    let seat_is : read ≡ seat = same_seat a.seats place read seat found seated.at_seat in
    let yes : test ≡ true = tells ∙ ap (λ (x : SeatValue). is_awake_turn x.turn) seat_is ∙ awake in
    cc (asleep, yes)

-- the place has no connection
pub none_there : (seen a : ServerValue) (place : ℕ) (link : LinkValue) (seat : SeatValue) (test :
    Bool) → seen ≡ a → IsSeatedAt a place link seat → (IsTrue test → IsOpenAt seen.hub place)
    × (IsOpenAt seen.hub place → IsTrue test) → test ≡ false → ⊥
none_there seen a place link seat test same seated tells free =
    let at : IsAt seen.hub place link = ap (λ (x : ServerValue). slice_get x.hub.slots place) same
    ∙ seated.at_link in
    let yes : test ≡ true = tells.1 (link, at) in
    cc (free, yes)

left_below : (server : ServerValue) (count : ℕ) → AreSeatedBelow server count
    → NoneLeftBelow server count → (place : ℕ) (link : LinkValue) (seat : SeatValue)
    → IsSeatedAt server place link seat → is_awake_turn seat.turn ≡ true → ⊥
left_below server count all none place link seat seated awake =
    none place link seat (all place link seat seated) seated awake

pub none_left : (server : ServerValue) (count : ℕ) → AreSeatedBelow server count
    → NoneLeftBelow server count → (IsTrue false → IsLeft server) × (IsLeft server → IsTrue false)
none_left server count all none = (
  λ yes. absurd (cc yes),
  λ left. absurd (left_below server count all none left.0 left.1 left.2 left.3 left.4),
)

-- ---- a wait

module _ {Endpoint : Type 0} (calls : EndpointRelation Endpoint) where
  pub may_wait : (limits : ServeLimits) (server : ServerValue) (until : Option ℕ) (is_left : Bool)
      → (IsServerDone limits.connections server → ⊥) → IsReadyToWait limits server
      → (IsTrue is_left → IsLeft server) × (IsLeft server → IsTrue is_left)
      → IsFirstTime (λ time. is_due limits.connections limits.patience is_left server time)
      until → MayWait limits server until
  may_wait limits server until is_left not_done ready left_is until_is =
      record {
        not_done = not_done;
        ready = ready;
        is_left = is_left;
        left_is = left_is;
        until_is = until_is;
      }

  pub waited : (limits : ServeLimits) (a b : ServerValue) (s t : Endpoint) (until : Option ℕ)
      (ready : List Bool) (listener : Bool) (time : ℕ) → MayWait limits a until
      → length ready ≡ length a.seats
      → b ≡ server_after_wait a ready listener time → calls s (WaitEvent until ready listener time)
      t → ReachesByWait calls limits a s b t
  waited limits a b s t until ready listener time may places is called = record {
    until = until;
    ready = ready;
    listener = listener;
    time = time;
    waits = (may, places, is);
    called = called;
  }

  pub wait_failed : (limits : ServeLimits) (fault : EndpointFault) (a b : ServerValue) (s t :
      Endpoint) (until : Option ℕ) → fault ≡ Wait → MayWait limits a until → b ≡ a
      → calls s (WaitFault until) t
      → FailsAtWait calls limits fault a s b t
  wait_failed limits fault a b s t until is may kept called =
      record { until = until; may_wait = may; fault_is = is; failed = called; kept = kept }
