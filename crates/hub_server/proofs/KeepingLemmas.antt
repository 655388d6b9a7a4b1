-- What a change of one place keeps of all places.
use Rattle.std.proofs.Common.{◌≡◌, ◌∙◌, ◌==◌, ◌<◌, ◌≤◌, ◌+◌, ℕ, Bool, true, false, Some, None, refl}
use Rattle.std.proofs.Common.{sym, ap, subst, arith, slice_get, slice_set}
use Rattle.std.proofs.lemmas.Bool.{eqb-false, eqb-true}
use Rattle.http_hub.specs.Hubs.{HubValue, with_slot}
use Rattle.http_hub.specs.Links.{LinkValue, has_expired}
use Rattle.http_hub.proofs.PlaceLemmas.{set_same}
use Rattle.hub_server.specs.Expiries.{KeepsTurnsOver}
use Rattle.hub_server.specs.Needs.{HasTurnAt, KeepsOthers, LeavesPlace}
use Rattle.hub_server.specs.Seats.{IsTurnOver, SeatValue}
use Rattle.hub_server.specs.Servers.{AreSeatedBelow, AreTurnsOver, IsSeatedAt, NoneExpired}
use Rattle.hub_server.specs.Servers.{ServerValue}
use Rattle.hub_server.specs.declared.limits.ServeLimits.{ServeLimits}
use Rattle.hub_server.proofs.PlaceStepLemmas.{leaves_keeps}

-- a connection at another place was there before
pub seated_before : (place other : ℕ) (a b : ServerValue) (link : LinkValue) (seat : SeatValue)
    → KeepsOthers place a b → (other ≡ place → ⊥) → IsSeatedAt b other link seat
    → IsSeatedAt a other link seat
seated_before place other a b link seat keeps apart seated = record {
  at_link = sym (keeps.slots other apart) ∙ seated.at_link;
  at_seat = sym (keeps.seats other apart) ∙ seated.at_seat;
}

pub turn_before : (place other : ℕ) (a b : ServerValue) → KeepsOthers place a b
    → (other ≡ place → ⊥) → HasTurnAt b other → HasTurnAt a other
turn_before place other a b keeps apart has = record {
  link = has.link;
  seat = has.seat;
  seated = seated_before place other a b has.link has.seat keeps apart has.seated;
  has_turn = has.has_turn;
}

pub seated_at : (place other : ℕ) (b : ServerValue) (link : LinkValue) (seat : SeatValue)
    → other ≡ place → IsSeatedAt b other link seat → IsSeatedAt b place link seat
seated_at place other b link seat same seated = subst (λ n. IsSeatedAt b n link seat) same seated

-- a fact of each connection, after a change of one place
module _ (Fact : LinkValue → SeatValue → Type 0) (place : ℕ) (a b : ServerValue) (keeps :
    KeepsOthers place a b)
    (before : (other : ℕ) (link : LinkValue) (seat : SeatValue) → IsSeatedAt a other link seat
    → Fact link seat)
    (here : (link : LinkValue) (seat : SeatValue) → IsSeatedAt b place link seat
    → Fact link seat) where
  fact_by : (other : ℕ) (link : LinkValue) (seat : SeatValue) (t : Bool) → (other == place) ≡ t
      → IsSeatedAt b other link seat → Fact link seat
  fact_by other link seat true is seated =
      here link seat (seated_at place other b link seat (eqb-true other place is) seated)
  fact_by other link seat false is seated =
      before other link seat (seated_before place other a b link seat keeps
      (eqb-false other place is) seated)

  pub fact_kept : (other : ℕ) (link : LinkValue) (seat : SeatValue) → IsSeatedAt b other link seat
      → Fact link seat
  fact_kept other link seat seated = fact_by other link seat (other == place) refl seated

-- a fact of each connection up to a place, after a change of the next one
module _ (Fact : LinkValue → SeatValue → Type 0) (place : ℕ) (a b : ServerValue) (keeps :
    KeepsOthers place a b)
    (below : (other : ℕ) (link : LinkValue) (seat : SeatValue) → other < place
    → IsSeatedAt a other link seat → Fact link seat)
    (here : (link : LinkValue) (seat : SeatValue) → IsSeatedAt b place link seat
    → Fact link seat) where
  below_by : (other : ℕ) (link : LinkValue) (seat : SeatValue) (t : Bool) → (other == place) ≡ t
      → other < place + 1 → IsSeatedAt b other link seat → Fact link seat
  below_by other link seat true is within seated =
      here link seat (seated_at place other b link seat (eqb-true other place is) seated)
  below_by other link seat false is within seated =
      let apart : other ≡ place → ⊥ = eqb-false other place is in
      below other link seat (omega (arith, within, apart)) (seated_before place other a b link seat
      keeps apart seated)

  pub fact_more : (other : ℕ) (link : LinkValue) (seat : SeatValue) → other < place + 1
      → IsSeatedAt b other link seat → Fact link seat
  fact_more other link seat within seated =
      below_by other link seat (other == place) refl within seated

-- ---- places below a number

pub seated_more : (a : ServerValue) (end count : ℕ) → AreSeatedBelow a end → end ≤ count
    → AreSeatedBelow a count
seated_more a end count below more place link seat seated = let within : place < end =
    below place link seat seated in omega (arith, within, more)

-- a change of a place below it keeps this
pub seated_kept : (place end : ℕ) (a b : ServerValue) → KeepsOthers place a b → place < end
    → AreSeatedBelow a end → AreSeatedBelow b end
seated_kept place end a b keeps here below other link seat seated = by_place (other == place) refl
  where
    by_place : (t : Bool) → (other == place) ≡ t → other < end
    by_place true is = let same : other ≡ place = eqb-true other place is in
        omega (arith, same, here)
    by_place false is = below other link seat (seated_before place other a b link seat keeps
        (eqb-false other place is) seated)

-- ---- a place that its connection leaves

-- the place is free
pub left_is_free : (a b : ServerValue) (place : ℕ) (link : LinkValue) (seat : SeatValue)
    → LeavesPlace a place b → IsSeatedAt b place link seat → ⊥
left_is_free a b place link seat left seated =
    let hub_is : b.hub ≡ with_slot a.hub place None = ap (λ (x : ServerValue). x.hub) left.after_is
    ∙ left.ends.after_is in
    let at : slice_get (slice_set a.hub.slots place None) place ≡ Some (Some link) =
    ap (λ (h : HubValue). slice_get h.slots place) (sym hub_is) ∙ seated.at_link in
    let free : slice_get (slice_set a.hub.slots place None) place ≡ Some None =
    set_same a.hub.slots place None (Some left.ends.link) left.ends.found in
    cc (at, free)

pub turns_left : (a b : ServerValue) (place : ℕ) → LeavesPlace a place b → KeepsTurnsOver a b
turns_left a b place left = λ before.
    fact_kept (λ link seat. IsTurnOver seat) place a b (leaves_keeps a b place left) before
    (λ link seat seated. absurd (left_is_free a b place link seat left seated))

-- ---- a turn of each place in order

pub no_turn_more : (place : ℕ) (a b : ServerValue) → KeepsOthers place a b
    → ((other : ℕ) → other < place → HasTurnAt a other → ⊥) → (HasTurnAt b place → ⊥) → (other : ℕ)
    → other < place + 1 → HasTurnAt b other → ⊥
no_turn_more place a b keeps below here other within has = by_place (other == place) refl
  where
    by_place : (t : Bool) → (other == place) ≡ t → ⊥
    by_place true is = here (subst (λ n. HasTurnAt b n) (eqb-true other place is) has)
    by_place false is =
        let apart : other ≡ place → ⊥ = eqb-false other place is in
        below other (omega (arith, within, apart)) (turn_before place other a b keeps apart has)

-- all places had their turn
pub turns_over : (a : ServerValue) (count : ℕ) → AreSeatedBelow a count
    → ((other : ℕ) → other < count → HasTurnAt a other → ⊥) → AreTurnsOver a
turns_over a count all below place link seat seated has =
    below place (all place link seat seated) (record {
      link = link;
      seat = seat;
      seated = seated;
      has_turn = has;
    })

-- no place has a connection that has expired
pub all_unexpired : (limits : ServeLimits) (a : ServerValue) (count : ℕ) → AreSeatedBelow a count
    → ((place : ℕ) (link : LinkValue) (seat : SeatValue) → place < count
    → IsSeatedAt a place link seat → has_expired link a.time limits.patience ≡ false)
    → NoneExpired limits a
all_unexpired limits a count all below place link seat seated =
    below place link seat (all place link seat seated) seated
