use Rattle.book_model.proofs.ImportCountLemmas.{imports_count_cards, imports_take_numbers}
use Rattle.book_model.proofs.laws.imports_count_cards.Goals as goal

pub returns-clause-counts : goal.returns-clause-counts
returns-clause-counts c = imports_count_cards

pub returns-clause-numbers : goal.returns-clause-numbers
returns-clause-numbers c = imports_take_numbers
