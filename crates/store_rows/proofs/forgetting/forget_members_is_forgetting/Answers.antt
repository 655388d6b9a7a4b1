use Rattle.store_rows.proofs.RemovedLemmas.{forgetting_held, forgetting_forgets, drops_forget}
use Rattle.store_rows.proofs.RemovedLemmas.{deletions_dropped}
use Rattle.store_rows.proofs.forgetting.forget_members_is_forgetting.Goals as goal

pub returns-clause-tables : goal.returns-clause-tables
returns-clause-tables c = forgetting_held

pub returns-clause-book : goal.returns-clause-book
returns-clause-book c = forgetting_forgets

pub returns-clause-drop : goal.returns-clause-drop
returns-clause-drop c = drops_forget

pub returns-clause-dropped : goal.returns-clause-dropped
returns-clause-dropped c = deletions_dropped
