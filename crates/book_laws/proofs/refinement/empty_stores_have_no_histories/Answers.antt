use Rattle.book_laws.proofs.StoreHistoryLemmas.{nothing_follows}
use Rattle.book_laws.proofs.refinement.empty_stores_have_no_histories.Goals as goal

pub returns : goal.returns
returns c = nothing_follows
