use Rattle.book_model.proofs.StoreLemmas.{stored_replace}
use Rattle.book_model.proofs.laws.stored_cards_replace_tombstones.Goals as goal

pub returns : goal.returns
returns c = stored_replace
