use Rattle.std.proofs.Common.{◌≡◌, List, ℕ, Bor, map, take}
use Rattle.store_check.specs.RowChecks.{text_cell}
use Rattle.store_check.proofs.keys.text_column.Given as goal

-- the keys of the rows so far
abbrev pub invariant-loop-row : goal.invariant-loop-row
invariant-loop-row l = map (λ (key : Bor (List ℕ)). key.now) l.keys.items ≡ map (text_cell l.at)
    (take l.row-index l.rows)
