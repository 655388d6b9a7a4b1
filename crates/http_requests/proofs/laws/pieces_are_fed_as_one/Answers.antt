use Rattle.http_requests.proofs.PieceLemmas.{pieces_are_fed}
use Rattle.http_requests.proofs.laws.pieces_are_fed_as_one.Goals as goal

pub returns : goal.returns
returns g c = pieces_are_fed g.H.Handler.does g.H.Handler.fault_reply
