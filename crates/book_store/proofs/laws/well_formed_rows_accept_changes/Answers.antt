use Rattle.book_store.proofs.ChangeableLemmas.{changeable_rows}
use Rattle.book_store.proofs.laws.well_formed_rows_accept_changes.Goals as goal

pub returns : goal.returns
returns c = changeable_rows
