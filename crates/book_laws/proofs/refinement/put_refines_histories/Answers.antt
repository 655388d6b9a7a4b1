use Rattle.book_laws.proofs.StoreHistoryLemmas.{putting_follows}
use Rattle.book_laws.proofs.refinement.put_refines_histories.Goals as goal

pub returns : goal.returns
returns c = putting_follows
