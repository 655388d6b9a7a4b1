use Rattle.book_laws.proofs.MoveLemmas.{moves_transfer_one_card}
use Rattle.book_laws.proofs.runs.moves_transfer_one_card.Goals as goal

pub returns : goal.returns
returns c = moves_transfer_one_card
