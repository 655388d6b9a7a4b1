use Rattle.book_model.proofs.EntryLemmas.{right_cleared, right_created, right_same, right_set}
use Rattle.book_model.proofs.laws.counts_follow_changes.Goals as goal

pub returns-clause-set : goal.returns-clause-set
returns-clause-set c = right_set

pub returns-clause-cleared : goal.returns-clause-cleared
returns-clause-cleared c = right_cleared

pub returns-clause-same : goal.returns-clause-same
returns-clause-same c = right_same

pub returns-clause-created : goal.returns-clause-created
returns-clause-created c = right_created
