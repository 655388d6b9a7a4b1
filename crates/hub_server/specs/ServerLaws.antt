-- What a run of a server means for each of its connections.
use Rattle.std.specs.Prelude.{◌≡◌, ◌==◌, ℕ, List, [], ◌∷◌, ◌++◌, cond, take}
use Rattle.http_requests.specs.HandlerRuns.{HandlerRelation, FaultReplies, KeepsScreens}
use Rattle.http_hub.specs.FedPieces.{octets_in, pieces_of}
use Rattle.http_hub.specs.HubRuns.{HubRuns, HubStep, SeparatesConnections, pieces_in, sent_to}
use Rattle.http_hub.specs.Holdings.{AreWithin}
use Rattle.http_hub.specs.Hubs.{new_hub}
use Rattle.hub_server.specs.ServerActs.{ServerAct}
use Rattle.hub_server.specs.ServerActs.ServerAct.{Awaits, AcceptsAt, FindsNoConnection}
use Rattle.hub_server.specs.ServerActs.ServerAct.{DefersAccepting}
use Rattle.hub_server.specs.ServerActs.ServerAct.{ReadsFrom, FindsNoInput, WritesTo, FindsNoOutput}
use Rattle.hub_server.specs.ServerActs.ServerAct.{ClosesAt}
use Rattle.hub_server.specs.ServerRuns.{ServerRuns, ServerStep}
use Rattle.hub_server.specs.ServerRuns.ServerStep.{Acts, Feeds}
use Rattle.hub_server.specs.Servers.{ServerValue, new_server}
use Rattle.hub_server.specs.declared.limits.ServeLimits.{ServeLimits}

-- the octets that an act reads from the connection with this serial number
abbrev pub octets_read_by : ℕ → ServerAct → List ℕ
octets_read_by connection (Awaits until ready listener time) = []
octets_read_by connection (AcceptsAt place serial) = []
octets_read_by connection (FindsNoConnection place) = []
octets_read_by connection (DefersAccepting place) = []
octets_read_by connection (ReadsFrom place serial octets) = cond (serial == connection) octets []
octets_read_by connection (FindsNoInput place serial) = []
octets_read_by connection (WritesTo place serial offered count) = []
octets_read_by connection (FindsNoOutput place serial offered) = []
octets_read_by connection (ClosesAt place serial cause) = []

-- the octets that an act writes to the connection with this serial number
abbrev pub octets_written_by : ℕ → ServerAct → List ℕ
octets_written_by connection (Awaits until ready listener time) = []
octets_written_by connection (AcceptsAt place serial) = []
octets_written_by connection (FindsNoConnection place) = []
octets_written_by connection (DefersAccepting place) = []
octets_written_by connection (ReadsFrom place serial octets) = []
octets_written_by connection (FindsNoInput place serial) = []
octets_written_by connection (WritesTo place serial offered count) =
    cond (serial == connection) (take count offered) []
octets_written_by connection (FindsNoOutput place serial offered) = []
octets_written_by connection (ClosesAt place serial cause) = []

-- all octets that were read from the connection
abbrev pub input_of : ℕ → List ServerStep → List ℕ
input_of connection [] = []
input_of connection (Acts act ∷ steps) = octets_read_by connection act ++ input_of connection steps
input_of connection (Feeds place serial piece ∷ steps) = input_of connection steps

-- all octets that were written to the connection
abbrev pub output_of : ℕ → List ServerStep → List ℕ
output_of connection [] = []
output_of connection (Acts act ∷ steps) =
    octets_written_by connection act ++ output_of connection steps
output_of connection (Feeds place serial piece ∷ steps) = output_of connection steps

module _ {State : Type 0} (does : HandlerRelation State) (fault_reply : FaultReplies) where
  -- The run is a run of the hub. The pieces fed for a connection are, joined, the octets read from
  -- it, or the first of them, and what the hub sends to it is what was written. So what was written
  -- to each connection, followed by what is pending, is the replies to its own requests in order, and
  -- after them that to a busy server's client, if it was refused.
  pub record IsRunOfHub
      (limits : ServeLimits) (old : State) (steps : List ServerStep)
      (new : State) (after : ServerValue) : Type 0 where
    pub hub_steps : List HubStep
    pub runs : HubRuns does fault_reply (new_hub limits.together) old hub_steps new after.hub
    pub rest : ℕ → List ℕ
    pub fed : (connection : ℕ) → input_of connection steps
        ≡ octets_in (pieces_of connection (pieces_in hub_steps)) ++ rest connection
    pub written : (connection : ℕ) → output_of connection steps ≡ sent_to connection hub_steps
    pub separate : SeparatesConnections does fault_reply limits.together old hub_steps new after.hub

  -- After every run of a server from its start on, the large connections together hold no more than
  -- the bound, or only one is large.
  abbrev pub ServersHoldWithin : Type 0
  ServersHoldWithin = (limits : ServeLimits) (old new : State) (steps : List ServerStep)
      → (after : ServerValue)
      → ServerRuns does fault_reply limits (new_server limits.together) old steps new after
      → AreWithin limits.held after.hub.slots

  -- every run of a server from its start on is such a run
  abbrev pub ServerRunsAreHubRuns : Type 0
  ServerRunsAreHubRuns =
      KeepsScreens does → (limits : ServeLimits) (old new : State) (steps : List ServerStep) (after : ServerValue)
      → ServerRuns does fault_reply limits (new_server limits.together) old steps new after
      → IsRunOfHub limits old steps new after
