use Rattle.store_rows.proofs.AddedLemmas.{book_added, keep_added, new_book_empty}
use Rattle.store_rows.proofs.adding.insert_book_is_creation.Goals as goal

pub returns-clause-book_row : goal.returns-clause-book_row
returns-clause-book_row c = book_added

pub returns-clause-keep_row : goal.returns-clause-keep_row
returns-clause-keep_row c = keep_added

pub returns-clause-books : goal.returns-clause-books
returns-clause-books c = new_book_empty
