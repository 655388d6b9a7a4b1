use Rattle.store_check.proofs.ListedLemmas.{well_stored_held}
use Rattle.store_check.proofs.laws.well_stored_rows_are_held.Goals as goal

pub returns : goal.returns
returns c = well_stored_held
