use Rattle.http_hub.proofs.FedPieceLemmas.{one_run}
use Rattle.http_hub.proofs.laws.interleavings_are_one_run.Goals as goal

pub returns : goal.returns
returns g c = one_run g.H.Handler.does g.H.Handler.fault_reply
