use Rattle.http_requests.proofs.PieceLemmas.{cuts_agree}
use Rattle.http_requests.proofs.laws.cuts_make_no_difference.Goals as goal

pub returns : goal.returns
returns g c = cuts_agree g.H.Handler.does g.H.Handler.fault_reply
