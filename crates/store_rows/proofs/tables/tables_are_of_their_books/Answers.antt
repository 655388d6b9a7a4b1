use Rattle.store_rows.proofs.TablesLemmas.{tables_of_books}
use Rattle.store_rows.proofs.tables.tables_are_of_their_books.Goals as goal

pub returns : goal.returns
returns c = tables_of_books
