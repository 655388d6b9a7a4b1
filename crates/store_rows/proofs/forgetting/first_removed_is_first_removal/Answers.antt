use Rattle.store_rows.proofs.FirstLemmas.{first_is_first, none_is_none}
use Rattle.store_rows.proofs.forgetting.first_removed_is_first_removal.Goals as goal

pub returns-clause-found : goal.returns-clause-found
returns-clause-found c = first_is_first

pub returns-clause-missing : goal.returns-clause-missing
returns-clause-missing c = none_is_none
