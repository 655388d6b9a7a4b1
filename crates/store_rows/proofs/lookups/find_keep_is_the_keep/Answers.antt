use Rattle.store_rows.proofs.LookupLemmas.{keep_found}
use Rattle.store_rows.proofs.lookups.find_keep_is_the_keep.Goals as goal

pub returns : goal.returns
returns c = keep_found
