use Rattle.book_laws.proofs.ChangeLemmas.{removing_follows}
use Rattle.book_laws.proofs.refinement.remove_refines_histories.Goals as goal

pub returns : goal.returns
returns c = removing_follows
