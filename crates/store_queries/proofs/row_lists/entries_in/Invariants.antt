use Rattle.std.proofs.Common.{take}
use Rattle.store_queries.specs.internal.RowLists.{ShowEntries}
use Rattle.store_queries.proofs.row_lists.entries_in.Given as goal

-- the rows so far have the entries so far, and the last number
abbrev pub invariant-loop-row : goal.invariant-loop-row
invariant-loop-row l = ShowEntries (take l.row-index l.rows) l.entries.items l.last
