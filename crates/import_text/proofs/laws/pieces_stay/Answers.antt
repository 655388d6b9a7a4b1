use Rattle.import_text.proofs.StayLemmas.{pieces_stay}
use Rattle.import_text.proofs.laws.pieces_stay.Goals as goal

pub returns : goal.returns
returns c = pieces_stay
