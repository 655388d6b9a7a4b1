use Rattle.store_lookups.proofs.StoreFaultLemmas.{number_error}
use Rattle.store_lookups.proofs.columns.number_in.Goals as goal

pub returns-in-Err-clause-memory : goal.returns-in-Err-clause-memory
returns-in-Err-clause-memory c n is =
    number_error c.args.row.now c.args.at n c.in-Err.error c.fault_of.result is
    c.in-Err.ensures.kind c.fault_of.ensures.value
