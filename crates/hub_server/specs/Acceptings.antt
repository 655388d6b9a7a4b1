-- Accepting the connections of a server.
use Rattle.std.specs.Prelude.{◌≡◌, ◌<◌, ◌-◌, ℕ, Bool, true, false, length}
use Rattle.http_hub.specs.Hubs.{IsFreeAt, open_count}
use Rattle.hub_server.specs.EndpointRuns.{EndpointRelation, ReachesByActs}
use Rattle.hub_server.specs.Endpoints.EndpointEvent.{AcceptFault}
use Rattle.hub_server.specs.Expiries.{KeepsNoneExpired, KeepsTurnsOver}
use Rattle.hub_server.specs.ServerActs.{MayAccept}
use Rattle.hub_server.specs.Servers.{ServerValue, accepts_at}
use Rattle.hub_server.specs.declared.endpoint_fault.EndpointFault.{EndpointFault}
use Rattle.hub_server.specs.declared.endpoint_fault.EndpointFault.TheVariants.{Accept}
use Rattle.hub_server.specs.declared.limits.ServeLimits.{ServeLimits}

-- the number of places without a connection
abbrev pub free_count : ServerValue → ℕ
free_count server = length server.hub.slots - open_count server.hub

module _ {Endpoint : Type 0} (calls : EndpointRelation Endpoint) where
  -- accepting was tried: if more connections may wait, one was accepted
  pub record AcceptsNext
      (limits : ServeLimits) (more : Bool)
      (before : ServerValue) (start : Endpoint) (after : ServerValue) (end : Endpoint)
      : Type 0 where
    pub acts : ReachesByActs calls limits before start after end
    pub turns : KeepsTurnsOver before after
    pub none_expired : KeepsNoneExpired limits before after
    pub fewer_free : more ≡ true → free_count after < free_count before
    pub none_awaited : more ≡ false → accepts_at limits.connections after after.time ≡ false

  -- accepting at a free place failed
  pub record FailsAccepting
      (fault : EndpointFault)
      (before : ServerValue) (start : Endpoint) (after : ServerValue) (end : Endpoint)
      : Type 0 where
    pub fault_is : fault ≡ Accept
    pub place : ℕ
    pub free : IsFreeAt before.hub place
    pub failed : calls start (AcceptFault place) end
    pub kept : after ≡ before

  -- after some acts accepting at a free place, which was due, failed
  pub record FailsAfterActs
      (limits : ServeLimits) (fault : EndpointFault)
      (before : ServerValue) (start : Endpoint) (after : ServerValue) (end : Endpoint)
      : Type 0 where
    pub between : Endpoint
    pub acts : ReachesByActs calls limits before start after between
    pub fault_is : fault ≡ Accept
    pub place : ℕ
    pub may_accept : MayAccept limits after place
    pub failed : calls between (AcceptFault place) end
