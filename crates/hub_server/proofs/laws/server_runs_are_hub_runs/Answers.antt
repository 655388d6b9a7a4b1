use Rattle.hub_server.proofs.ServerLawLemmas.{server_runs_are_hub_runs}
use Rattle.hub_server.proofs.laws.server_runs_are_hub_runs.Goals as goal

pub returns : goal.returns
returns g c = server_runs_are_hub_runs g.H.Handler.does g.H.Handler.fault_reply
