use Rattle.book_model.proofs.EntryLemmas.{right_counted, right_fewer}
use Rattle.book_model.proofs.laws.counts_stay_right.Goals as goal

pub returns-clause-counted : goal.returns-clause-counted
returns-clause-counted c = right_counted

pub returns-clause-forgotten : goal.returns-clause-forgotten
returns-clause-forgotten c = right_fewer
