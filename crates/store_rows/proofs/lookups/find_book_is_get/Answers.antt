use Rattle.store_rows.proofs.LookupLemmas.{book_found, book_missing}
use Rattle.store_rows.proofs.lookups.find_book_is_get.Goals as goal

pub returns-clause-found : goal.returns-clause-found
returns-clause-found c = book_found

pub returns-clause-missing : goal.returns-clause-missing
returns-clause-missing c = book_missing
