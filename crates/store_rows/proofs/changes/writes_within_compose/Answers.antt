use Rattle.store_rows.proofs.WriteLemmas.{go_on, no_write}
use Rattle.store_rows.proofs.changes.writes_within_compose.Goals as goal

pub returns-clause-composes : goal.returns-clause-composes
returns-clause-composes c = go_on

pub returns-clause-none : goal.returns-clause-none
returns-clause-none c = no_write
