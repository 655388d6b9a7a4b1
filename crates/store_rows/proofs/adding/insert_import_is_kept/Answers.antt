use Rattle.store_rows.proofs.AddedLemmas.{import_added, import_kept}
use Rattle.store_rows.proofs.adding.insert_import_is_kept.Goals as goal

pub returns-clause-tables : goal.returns-clause-tables
returns-clause-tables c = import_added

pub returns-clause-stored_import : goal.returns-clause-stored_import
returns-clause-stored_import c = import_kept
