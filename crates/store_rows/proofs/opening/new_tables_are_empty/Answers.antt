use Rattle.store_rows.proofs.OpenLemmas.{new_tables_empty}
use Rattle.store_rows.proofs.opening.new_tables_are_empty.Goals as goal

pub returns : goal.returns
returns c = new_tables_empty
