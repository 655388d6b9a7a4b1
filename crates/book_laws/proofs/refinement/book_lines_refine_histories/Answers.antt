use Rattle.book_laws.proofs.ReadLemmas.{books_follow, book_lines_follow}
use Rattle.book_laws.proofs.refinement.book_lines_refine_histories.Goals as goal

pub returns-clause-all : goal.returns-clause-all
returns-clause-all c = books_follow

pub returns-clause-one : goal.returns-clause-one
returns-clause-one c = book_lines_follow
