use Rattle.std.proofs.Common.{◌≤◌, map, take}
use Rattle.std.specs.List.{AllByRecursion}
use Rattle.store_check.specs.RowChecks.{decode_book}
use Rattle.store_rows.specs.Values.{natural}
use Rattle.store_copy.proofs.numbers.greatest_number.Given as goal

-- the greatest number so far
abbrev pub invariant-loop-i : goal.invariant-loop-i
invariant-loop-i l = AllByRecursion (λ book. natural book.numbers.number ≤ l.greatest)
    (map decode_book (take l.i l.books))
