use Rattle.book_laws.proofs.WellFormedPages.{pages_fit_books, pages_have_short_numbers}
use Rattle.book_laws.proofs.WellFormedPages.{other_books_tokens_are_refused}
use Rattle.book_laws.proofs.well_formed.pages_fit_well_formed_books.Goals as goal

pub returns-clause-fit : goal.returns-clause-fit
returns-clause-fit c = pages_fit_books

pub returns-clause-short_numbers : goal.returns-clause-short_numbers
returns-clause-short_numbers c = pages_have_short_numbers

pub returns-clause-other_books : goal.returns-clause-other_books
returns-clause-other_books c = other_books_tokens_are_refused
