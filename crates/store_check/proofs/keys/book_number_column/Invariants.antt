use Rattle.std.proofs.Common.{◌≡◌, map, take}
use Rattle.store_check.specs.RowChecks.{book_and_number}
use Rattle.store_check.proofs.keys.book_number_column.Given as goal

-- the keys of the rows so far
abbrev pub invariant-loop-row : goal.invariant-loop-row
invariant-loop-row l = l.keys.items ≡ map (book_and_number l.at) (take l.row-index l.rows)
