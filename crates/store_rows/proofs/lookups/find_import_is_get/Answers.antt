use Rattle.store_rows.proofs.LookupLemmas.{import_found, import_missing}
use Rattle.store_rows.proofs.lookups.find_import_is_get.Goals as goal

pub returns-clause-found : goal.returns-clause-found
returns-clause-found c = import_found

pub returns-clause-missing : goal.returns-clause-missing
returns-clause-missing c = import_missing
