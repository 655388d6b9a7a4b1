use Rattle.store_lookups.proofs.StoreFaultLemmas.{card_error}
use Rattle.store_lookups.proofs.columns.card_in.Goals as goal

pub returns-in-Err-clause-memory : goal.returns-in-Err-clause-memory
returns-in-Err-clause-memory c text there is canonical =
    card_error c.args.row.now c.args.at text c.in-Err.error c.fault_of.result there is canonical
    c.in-Err.ensures.kind c.fault_of.ensures.value
