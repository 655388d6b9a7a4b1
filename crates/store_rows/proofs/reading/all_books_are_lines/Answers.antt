use Rattle.store_rows.proofs.LineLemmas.{all_listed, all_counted}
use Rattle.store_rows.proofs.reading.all_books_are_lines.Goals as goal

pub returns-clause-lines : goal.returns-clause-lines
returns-clause-lines c = all_listed

pub returns-clause-count : goal.returns-clause-count
returns-clause-count c = all_counted
