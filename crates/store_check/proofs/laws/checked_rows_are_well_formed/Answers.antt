use Rattle.store_check.proofs.CheckedLemmas.{rows_checked}
use Rattle.store_check.proofs.WellLemmas.{rows_well}
use Rattle.store_check.proofs.laws.checked_rows_are_well_formed.Goals as goal

pub returns : goal.returns
returns c limits rows sound = (rows_well limits rows sound, rows_checked limits rows)
