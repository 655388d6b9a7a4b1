use Rattle.std.proofs.Common.{ℕ, List}
use Rattle.csv_cards.specs.Rows.{Row}
use Rattle.csv_cards.specs.internal.ReaderState.{HasReadRows}
use Rattle.cli_orders.specs.internal.RowReaders.{SkipsRows}
use Rattle.cli_orders.proofs.card_rows.skip_rows.Given as goal

-- the rows so far are skipped
abbrev pub invariant-loop-row : goal.invariant-loop-row
invariant-loop-row l = (text : List ℕ) (rows : List Row) → HasReadRows l.fn.reader text rows
    → SkipsRows l.reader text rows l._row
