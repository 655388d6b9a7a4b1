use Rattle.store_rows.proofs.LookupLemmas.{member_found, member_missing}
use Rattle.store_rows.proofs.lookups.find_member_is_get.Goals as goal

pub returns-clause-found : goal.returns-clause-found
returns-clause-found c = member_found

pub returns-clause-missing : goal.returns-clause-missing
returns-clause-missing c = member_missing
