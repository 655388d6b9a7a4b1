-- Serving all connections of an endpoint: how it ends.
use Rattle.std.specs.Prelude.{◌≡◌, ℕ, Option, true}
use Rattle.http_requests.specs.HandlerRuns.{HandlerRelation, FaultReplies}
use Rattle.hub_server.specs.Endpoints.EndpointEvent.{AcceptFault, WaitFault}
use Rattle.hub_server.specs.EndpointRuns.{EndpointRelation}
use Rattle.hub_server.specs.ServerActs.{MayAccept, MayWait}
use Rattle.hub_server.specs.ServerRuns.{ReachesBySteps}
use Rattle.hub_server.specs.Servers.{IsServerDone, ServerValue, new_server}
use Rattle.hub_server.specs.declared.endpoint_fault.EndpointFault.{EndpointFault}
use Rattle.hub_server.specs.declared.endpoint_fault.EndpointFault.TheVariants as fault
use Rattle.hub_server.specs.declared.limits.ServeLimits.{ServeLimits}

-- the most waits
abbrev pub most_waits : ℕ
most_waits = 18446744073709551615

module _ {State Endpoint : Type 0} (does : HandlerRelation State) (fault_reply : FaultReplies)
    (calls : EndpointRelation Endpoint) where
  -- the server made a run from its start on, to this server, handler and endpoint
  pub record RunsFromStart
      (limits : ServeLimits) (old : State) (start : Endpoint) (after : ServerValue) (new : State)
      (end : Endpoint) : Type 0 where
    pub waits : ℕ
    pub reached : ReachesBySteps does fault_reply calls limits waits
        (new_server limits.together) old start after new end

  -- The server made a run from its start on. Every connection that was to be accepted was, and none
  -- is open any more.
  pub record ServesAll
      (limits : ServeLimits) (old : State) (start : Endpoint) (new : State) (end : Endpoint)
      : Type 0 where
    pub after : ServerValue
    pub run : RunsFromStart limits old start after new end
    pub done : IsServerDone limits.connections after

  -- The server made a run from its start on. Then a wait, which was due, failed.
  pub record FailsToAwait
      (limits : ServeLimits) (old : State) (start : Endpoint) (new : State) (end : Endpoint)
      : Type 0 where
    pub after : ServerValue
    pub between : Endpoint
    pub run : RunsFromStart limits old start after new between
    pub until : Option ℕ
    pub may_wait : MayWait limits after until
    pub failed : calls between (WaitFault until) end

  -- The server made a run from its start on. Then accepting a connection, which was due, failed at a
  -- free place.
  pub record FailsToAccept
      (limits : ServeLimits) (old : State) (start : Endpoint) (new : State) (end : Endpoint)
      : Type 0 where
    pub after : ServerValue
    pub between : Endpoint
    pub run : RunsFromStart limits old start after new between
    pub place : ℕ
    pub may_accept : MayAccept limits after place
    pub failed : calls between (AcceptFault place) end

  -- The server made a run from its start on, with the greatest number of waits.
  pub record WaitsTooOften
      (limits : ServeLimits) (old : State) (start : Endpoint) (new : State) (end : Endpoint)
      : Type 0 where
    pub after : ServerValue
    pub reached : ReachesBySteps does fault_reply calls limits most_waits
        (new_server limits.together) old start after new end

  -- how serving ended with this fault
  abbrev pub StopsAtEndpoint :
      ServeLimits → EndpointFault → State → Endpoint → State → Endpoint → Type 0
  StopsAtEndpoint limits fault.Wait old start new end = FailsToAwait limits old start new end
  StopsAtEndpoint limits fault.Accept old start new end = FailsToAccept limits old start new end
  StopsAtEndpoint limits fault.TooManyWaits old start new end =
      WaitsTooOften limits old start new end
  StopsAtEndpoint limits fault.Memory old start new end = (old ≡ new) × (start ≡ end)
