use Rattle.store_rows.proofs.HeldRows.{nothing_held}
use Rattle.store_rows.proofs.tables.empty_tables_hold_no_books.Goals as goal

pub returns : goal.returns
returns c = nothing_held
