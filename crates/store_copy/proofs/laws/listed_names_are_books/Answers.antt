use Rattle.store_copy.proofs.RestLemmas.{names_are_books}
use Rattle.store_copy.proofs.laws.listed_names_are_books.Goals as goal

pub returns : goal.returns
returns c = names_are_books
