use Rattle.store_check.proofs.TestedLemmas.{faulty_not_stored}
use Rattle.store_check.proofs.laws.faulty_rows_are_not_well_stored.Goals as goal

pub returns : goal.returns
returns c = faulty_not_stored
