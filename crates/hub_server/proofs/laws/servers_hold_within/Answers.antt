use Rattle.hub_server.proofs.BoundLemmas.{servers_hold_within}
use Rattle.hub_server.proofs.laws.servers_hold_within.Goals as goal

pub returns : goal.returns
returns g c = servers_hold_within g.H.Handler.does g.H.Handler.fault_reply
