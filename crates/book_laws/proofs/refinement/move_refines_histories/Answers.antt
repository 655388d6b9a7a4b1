use Rattle.book_laws.proofs.ChangeLemmas.{moving_follows}
use Rattle.book_laws.proofs.refinement.move_refines_histories.Goals as goal

pub returns : goal.returns
returns c = moving_follows
