use Rattle.std.proofs.Common.{take}
use Rattle.store_queries.specs.internal.RowLists.{ShowCards}
use Rattle.store_queries.proofs.row_lists.cards_in.Given as goal

-- the rows so far have the cards so far
abbrev pub invariant-loop-row : goal.invariant-loop-row
invariant-loop-row l = ShowCards (take l.row-index l.rows) l.cards
