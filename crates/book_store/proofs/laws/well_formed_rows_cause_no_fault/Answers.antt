use Rattle.book_store.proofs.FaultlessLemmas.{faultless_rows}
use Rattle.book_store.proofs.laws.well_formed_rows_cause_no_fault.Goals as goal

pub returns : goal.returns
returns c = faultless_rows
