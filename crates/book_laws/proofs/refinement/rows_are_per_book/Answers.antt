use Rattle.book_laws.proofs.StoreHistoryLemmas.{get-rows}
use Rattle.book_laws.proofs.refinement.rows_are_per_book.Goals as goal

pub returns : goal.returns
returns c = get-rows
