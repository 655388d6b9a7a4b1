use Rattle.book_store.proofs.OrderLemmas.{store_rises}
use Rattle.book_store.proofs.laws.stored_rows_are_in_order.Goals as goal

pub returns : goal.returns
returns c = store_rises
