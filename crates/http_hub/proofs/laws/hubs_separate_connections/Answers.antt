use Rattle.http_hub.proofs.HubLemmas.{hubs_separate_connections}
use Rattle.http_hub.proofs.laws.hubs_separate_connections.Goals as goal

pub returns : goal.returns
returns g c = hubs_separate_connections g.H.Handler.does g.H.Handler.fault_reply
