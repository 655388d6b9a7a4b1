use Rattle.std.proofs.Common.{sym, ◌∙◌}
use Rattle.store_rows.proofs.HeldRows.{books_held}
use Rattle.store_rows.proofs.tables.books_ignore_row_order.Goals as goal

pub returns-clause-books : goal.returns-clause-books
returns-clause-books c = books_held

pub returns-clause-order : goal.returns-clause-order
returns-clause-order c a b rows p q sound = books_held a rows p sound
    ∙ sym (books_held b rows q sound)
