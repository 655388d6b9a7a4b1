use Rattle.store_rows.proofs.BookLemmas.{renumbering_held, changes_one}
use Rattle.store_rows.proofs.changes.renumber_book_is_insert.Goals as goal

pub returns-clause-tables : goal.returns-clause-tables
returns-clause-tables c = renumbering_held

pub returns-clause-books : goal.returns-clause-books
returns-clause-books c = changes_one
