use Rattle.std.proofs.Common.{◌≡◌, flat_map, map, take}
use Rattle.book_model.specs.BookQueries.{named_number}
use Rattle.cli_orders.specs.OrderOutputs.{tally_row}
use Rattle.cli_orders.proofs.tally_output.tally_text.Given as goal

-- the lines of the rows so far are written
abbrev pub invariant-loop-name : goal.invariant-loop-name
invariant-loop-name l = l.out.items ≡ flat_map (λ row. tally_row row.0 row.1)
    (map named_number (take l.name-index l.name-items))
