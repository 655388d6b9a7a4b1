use Rattle.std.proofs.Common.{◌≡◌, map, take}
use Rattle.store_check.specs.RowChecks.{int_cell}
use Rattle.store_check.proofs.keys.number_column.Given as goal

-- the keys of the rows so far
abbrev pub invariant-loop-row : goal.invariant-loop-row
invariant-loop-row l = l.keys.items ≡ map (int_cell l.at) (take l.row-index l.rows)
