-- A round of a server: a wait, and the service of what it reported.
use Rattle.std.specs.Prelude.{◌≡◌, ◌⊎◌, ℕ, length}
use Rattle.http_requests.specs.HandlerRuns.{HandlerRelation, FaultReplies}
use Rattle.hub_server.specs.EndpointRuns.{EndpointRelation}
use Rattle.hub_server.specs.Acceptings.{FailsAfterActs}
use Rattle.hub_server.specs.EndpointRuns.{FailsAtWait}
use Rattle.hub_server.specs.ServerRuns.{ReachesBySteps}
use Rattle.hub_server.specs.Servers.{IsReadyToWait, ServerValue}
use Rattle.hub_server.specs.declared.endpoint_fault.EndpointFault.{EndpointFault}
use Rattle.hub_server.specs.declared.limits.ServeLimits.{ServeLimits}

module _ {State Endpoint : Type 0} (does : HandlerRelation State) (fault_reply : FaultReplies)
    (calls : EndpointRelation Endpoint) where
  -- there was one wait, and all that it reported was done
  pub record ServesRound
      (limits : ServeLimits)
      (before : ServerValue) (old : State) (start : Endpoint)
      (after : ServerValue) (new : State) (end : Endpoint) : Type 0 where
    pub steps : ReachesBySteps does fault_reply calls limits 1 before old start after new end
    pub ready : IsReadyToWait limits after
    pub places : length after.seats ≡ length before.seats

  -- after some steps accepting failed
  pub record FailsAfterSteps
      (limits : ServeLimits) (fault : EndpointFault)
      (before : ServerValue) (old : State) (start : Endpoint)
      (after : ServerValue) (new : State) (end : Endpoint) : Type 0 where
    pub waits : ℕ
    pub between : ServerValue
    pub middle : Endpoint
    pub steps : ReachesBySteps does fault_reply calls limits waits
        before old start between new middle
    pub failed : FailsAfterActs calls limits fault between middle after end

  -- the wait failed, or after it accepting failed
  abbrev pub FailsInRound : ServeLimits → EndpointFault → ServerValue → State → Endpoint
      → ServerValue → State → Endpoint → Type 0
  FailsInRound limits fault before old start after new end =
      (FailsAtWait calls limits fault before start after end × (old ≡ new))
      ⊎ FailsAfterSteps limits fault before old start after new end
