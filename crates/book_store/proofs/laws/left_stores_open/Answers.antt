use Rattle.book_store.proofs.RestartLemmas.{trees_hold_store}
use Rattle.book_store.proofs.laws.left_stores_open.Goals as goal

pub returns : goal.returns
returns c = trees_hold_store
