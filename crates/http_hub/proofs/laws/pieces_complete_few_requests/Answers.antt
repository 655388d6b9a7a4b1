use Rattle.http_hub.proofs.PieceRequestLemmas.{pieces_complete_few}
use Rattle.http_hub.proofs.laws.pieces_complete_few_requests.Goals as goal

pub returns : goal.returns
returns c = pieces_complete_few
