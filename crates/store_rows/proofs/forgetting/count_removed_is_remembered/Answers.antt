use Rattle.store_rows.proofs.RemovedLemmas.{counts_remembered}
use Rattle.store_rows.proofs.forgetting.count_removed_is_remembered.Goals as goal

pub returns : goal.returns
returns c = counts_remembered
