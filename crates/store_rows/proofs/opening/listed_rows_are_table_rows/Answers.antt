use Rattle.store_rows.proofs.OpenLemmas.{listed_rows_held}
use Rattle.store_rows.proofs.opening.listed_rows_are_table_rows.Goals as goal

pub returns : goal.returns
returns c = listed_rows_held
