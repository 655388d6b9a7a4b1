use Rattle.store_lookups.proofs.StoreFaultLemmas.{text_error}
use Rattle.store_lookups.proofs.columns.text_in.Goals as goal

pub returns-in-Err-clause-memory : goal.returns-in-Err-clause-memory
returns-in-Err-clause-memory c text is utf8 =
    text_error c.args.row.now c.args.at text c.in-Err.error c.fault_of.result is utf8
    c.in-Err.ensures.kind c.fault_of.ensures.value
