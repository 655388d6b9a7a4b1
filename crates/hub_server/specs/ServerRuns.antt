-- Runs of a server: what it does at its endpoint and with its handler.
use Rattle.std.specs.Prelude.{◌≡◌, ◌+◌, ℕ, List, [], ◌∷◌, ◌++◌, drop, length}
use Rattle.http_requests.specs.HandlerRuns.{HandlerRelation, FaultReplies}
use Rattle.http_hub.specs.BoundedHubs.{ReceivesWithin}
use Rattle.http_hub.specs.Hubs.{HubValue}
use Rattle.hub_server.specs.Endpoints.{EndpointEvent}
use Rattle.hub_server.specs.EndpointRuns.{EndpointRelation, EndpointRuns, wait_count_of_act}
use Rattle.hub_server.specs.Needs.{NeedsFeeding}
use Rattle.hub_server.specs.Seats.{next_piece, seat_after_step}
use Rattle.hub_server.specs.ServerActs.{DoesAct, ServerAct, events_of_act}
use Rattle.hub_server.specs.Servers.{ServerValue, with_seat}
use Rattle.hub_server.specs.declared.limits.ServeLimits.{ServeLimits}

-- One step of a server.
pub data ServerStep : Type 0 where
  -- an act at the endpoint
  Acts : ServerAct → ServerStep
  -- a piece of the octets read is fed to the session of the connection with this place and serial
  -- number
  Feeds : ℕ → ℕ → List ℕ → ServerStep

-- the calls of these steps, in order
abbrev pub events_of_step : ServerStep → List EndpointEvent
events_of_step (Acts act) = events_of_act act
events_of_step (Feeds place serial piece) = []

abbrev pub events_of_steps : List ServerStep → List EndpointEvent
events_of_steps [] = []
events_of_steps (step ∷ steps) = events_of_step step ++ events_of_steps steps

-- the number of waits
abbrev pub wait_count : List ServerStep → ℕ
wait_count [] = 0
wait_count (Acts act ∷ steps) = wait_count_of_act act + wait_count steps
wait_count (Feeds place serial piece ∷ steps) = wait_count steps

module _ {State : Type 0} (does : HandlerRelation State) (fault_reply : FaultReplies) where
  -- the next piece of the octets read was fed to the session of its connection; out of memory, or if
  -- the connection then held more than it may beside the others, the session is closed
  pub record FeedsNext
      (most : ℕ) (before : ServerValue) (old : State) (place serial : ℕ) (piece : List ℕ)
      (new : State) (after : ServerValue) : Type 0 where
    pub needs : NeedsFeeding before place
    pub serial_is : needs.link.serial ≡ serial
    pub piece_is : piece ≡ next_piece needs.seat.unfed
    pub hub : HubValue
    pub fed : ReceivesWithin does fault_reply most place before.hub old piece before.time new hub
    pub after_is : after ≡
        with_seat before place hub
        (seat_after_step needs.seat (drop (length piece) needs.seat.unfed))

  -- the effect of one step
  abbrev pub DoesServerStep :
      ServeLimits → ServerValue → State → ServerStep → State → ServerValue → Type 0
  DoesServerStep limits before old (Acts act) new after =
      (old ≡ new) × DoesAct limits before act after
  DoesServerStep limits before old (Feeds place serial piece) new after =
      FeedsNext limits.held before old place serial piece new after

  -- the effect of these steps in turn
  unfoldable pub ServerRuns :
      ServeLimits → ServerValue → State → List ServerStep → State → ServerValue → Type 0
  ServerRuns limits before old [] new after = (before ≡ after) × (old ≡ new)
  ServerRuns limits before old (step ∷ steps) new after =
      (between : ServerValue) × (middle : State)
      × DoesServerStep limits before old step middle between
      × ServerRuns limits between middle steps new after

  module _ {Endpoint : Type 0} (calls : EndpointRelation Endpoint) where
    -- some steps with this number of waits have this effect on the server and the handler, and
    -- their calls on the endpoint
    pub record ReachesBySteps
        (limits : ServeLimits) (waits : ℕ) (before : ServerValue) (old : State) (start : Endpoint)
        (after : ServerValue) (new : State) (end : Endpoint) : Type 0 where
      pub steps : List ServerStep
      pub runs : ServerRuns limits before old steps new after
      pub called : EndpointRuns calls start (events_of_steps steps) end
      pub waits_are : wait_count steps ≡ waits
