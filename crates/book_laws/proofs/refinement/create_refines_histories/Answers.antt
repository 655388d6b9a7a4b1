use Rattle.book_laws.proofs.StoreHistoryLemmas.{creating_follows}
use Rattle.book_laws.proofs.refinement.create_refines_histories.Goals as goal

pub returns : goal.returns
returns c = creating_follows
