-- Closing the connections of a server that have expired.
use Rattle.std.specs.Prelude.{◌≡◌, ℕ, true}
use Rattle.http_hub.specs.Links.{LinkValue, has_expired}
use Rattle.hub_server.specs.EndpointRuns.{EndpointRelation, ReachesByActs}
use Rattle.hub_server.specs.Needs.{KeepsOthers}
use Rattle.hub_server.specs.Seats.{SeatValue}
use Rattle.hub_server.specs.Servers.{AreTurnsOver, IsSeatedAt, NoneExpired, ServerValue}
use Rattle.hub_server.specs.declared.limits.ServeLimits.{ServeLimits}

-- if no connection had its turn before, none has it after
abbrev pub KeepsTurnsOver : ServerValue → ServerValue → Type 0
KeepsTurnsOver before after = AreTurnsOver before → AreTurnsOver after

-- if no connection had expired before, none has after
abbrev pub KeepsNoneExpired : ServeLimits → ServerValue → ServerValue → Type 0
KeepsNoneExpired limits before after = NoneExpired limits before → NoneExpired limits after

-- the place has a connection, and it has expired
pub record HasExpiredAt (limits : ServeLimits) (server : ServerValue) (place : ℕ) : Type 0 where
  pub link : LinkValue
  pub seat : SeatValue
  pub seated : IsSeatedAt server place link seat
  pub expired : has_expired link server.time limits.patience ≡ true

module _ {Endpoint : Type 0} (calls : EndpointRelation Endpoint) where
  -- the connection at the place was closed if it had expired
  pub record ExpiresAt
      (limits : ServeLimits) (place : ℕ)
      (before : ServerValue) (start : Endpoint) (after : ServerValue) (end : Endpoint)
      : Type 0 where
    pub acts : ReachesByActs calls limits before start after end
    pub others : KeepsOthers place before after
    pub turns : KeepsTurnsOver before after
    pub not_expired : HasExpiredAt limits after place → ⊥
