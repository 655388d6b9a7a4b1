-- Calls at an endpoint, one after another.
use Rattle.std.specs.Prelude.{◌≡◌, ◌+◌, ℕ, Bool, List, [], ◌∷◌, ◌++◌, Option}
use Rattle.hub_server.specs.Endpoints.{EndpointEvent}
use Rattle.hub_server.specs.Endpoints.EndpointEvent.{WaitEvent, WaitFault}
use Rattle.hub_server.specs.ServerActs.{DoesAct, MayWait, ServerAct, events_of_act}
use Rattle.hub_server.specs.ServerActs.ServerAct.{Awaits, AcceptsAt, FindsNoConnection}
use Rattle.hub_server.specs.ServerActs.ServerAct.{DefersAccepting}
use Rattle.hub_server.specs.ServerActs.ServerAct.{ReadsFrom, FindsNoInput, WritesTo, FindsNoOutput}
use Rattle.hub_server.specs.ServerActs.ServerAct.{ClosesAt}
use Rattle.hub_server.specs.Servers.{ServerValue}
use Rattle.hub_server.specs.declared.endpoint_fault.EndpointFault.{EndpointFault}
use Rattle.hub_server.specs.declared.endpoint_fault.EndpointFault.TheVariants.{Wait}
use Rattle.hub_server.specs.declared.limits.ServeLimits.{ServeLimits}

-- the effect of one call with its outcome: the endpoint before, the event, the endpoint after
abbrev pub EndpointRelation : Type 0 → Type 1
EndpointRelation Endpoint = Endpoint → EndpointEvent → Endpoint → Type 0

-- the effect of these calls in turn
unfoldable pub EndpointRuns : {Endpoint : Type 0} → EndpointRelation Endpoint
    → Endpoint → List EndpointEvent → Endpoint → Type 0
EndpointRuns calls start [] end = start ≡ end
EndpointRuns calls start (event ∷ events) end =
    (middle : _) × calls start event middle × EndpointRuns calls middle events end

-- the calls of these acts, in order
abbrev pub events_of_acts : List ServerAct → List EndpointEvent
events_of_acts [] = []
events_of_acts (act ∷ acts) = events_of_act act ++ events_of_acts acts

-- the effect of these acts in turn
unfoldable pub ActRuns : ServeLimits → ServerValue → List ServerAct → ServerValue → Type 0
ActRuns limits before [] after = before ≡ after
ActRuns limits before (act ∷ acts) after =
    (between : ServerValue) × DoesAct limits before act between × ActRuns limits between acts after

-- the number of waits among these acts
abbrev pub wait_count_of_act : ServerAct → ℕ
wait_count_of_act (Awaits until ready listener time) = 1
wait_count_of_act (AcceptsAt place serial) = 0
wait_count_of_act (FindsNoConnection place) = 0
wait_count_of_act (DefersAccepting place) = 0
wait_count_of_act (ReadsFrom place serial octets) = 0
wait_count_of_act (FindsNoInput place serial) = 0
wait_count_of_act (WritesTo place serial offered count) = 0
wait_count_of_act (FindsNoOutput place serial offered) = 0
wait_count_of_act (ClosesAt place serial cause) = 0

abbrev pub wait_count_of_acts : List ServerAct → ℕ
wait_count_of_acts [] = 0
wait_count_of_acts (act ∷ acts) = wait_count_of_act act + wait_count_of_acts acts

module _ {Endpoint : Type 0} (calls : EndpointRelation Endpoint) where
  -- some acts in turn, without a wait, have this effect on the server, and their calls on the
  -- endpoint
  pub record ReachesByActs
      (limits : ServeLimits)
      (before : ServerValue) (start : Endpoint) (after : ServerValue) (end : Endpoint)
      : Type 0 where
    pub acts : List ServerAct
    pub runs : ActRuns limits before acts after
    pub called : EndpointRuns calls start (events_of_acts acts) end
    pub no_wait : wait_count_of_acts acts ≡ 0

  -- there was one wait, when it was due
  pub record ReachesByWait
      (limits : ServeLimits)
      (before : ServerValue) (start : Endpoint) (after : ServerValue) (end : Endpoint)
      : Type 0 where
    pub until : Option ℕ
    pub ready : List Bool
    pub listener : Bool
    pub time : ℕ
    pub waits : DoesAct limits before (Awaits until ready listener time) after
    pub called : calls start (WaitEvent until ready listener time) end

  -- a wait, which was due, failed
  pub record FailsAtWait
      (limits : ServeLimits) (fault : EndpointFault)
      (before : ServerValue) (start : Endpoint) (after : ServerValue) (end : Endpoint)
      : Type 0 where
    pub until : Option ℕ
    pub may_wait : MayWait limits before until
    pub fault_is : fault ≡ Wait
    pub failed : calls start (WaitFault until) end
    pub kept : after ≡ before
