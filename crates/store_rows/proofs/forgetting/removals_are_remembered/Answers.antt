use Rattle.store_rows.proofs.FirstLemmas.{removals_remembered}
use Rattle.store_rows.proofs.forgetting.removals_are_remembered.Goals as goal

pub returns : goal.returns
returns c = removals_remembered
