use Rattle.std.proofs.Common.{◌≡◌, List, ℕ, ℤ, Bor, map, take}
use Rattle.store_check.specs.RowChecks.{book_and_text}
use Rattle.store_check.proofs.keys.book_text_column.Given as goal

-- the keys of the rows so far
abbrev pub invariant-loop-row : goal.invariant-loop-row
invariant-loop-row l = map (λ (key : ℤ × Bor (List ℕ)). (key.0, key.1.now)) l.keys.items
    ≡ map (book_and_text l.at) (take l.row-index l.rows)
