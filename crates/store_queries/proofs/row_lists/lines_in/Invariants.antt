use Rattle.std.proofs.Common.{take}
use Rattle.store_rows.specs.ReadLaws.{ShowLines}
use Rattle.store_queries.proofs.row_lists.lines_in.Given as goal

-- the rows so far have the lines so far
abbrev pub invariant-loop-row : goal.invariant-loop-row
invariant-loop-row l = ShowLines (take l.row-index l.rows) l.lines.items
