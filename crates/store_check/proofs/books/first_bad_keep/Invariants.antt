use Rattle.std.proofs.Common.{drop}
use Rattle.std.specs.List.{AllByRecursion}
use Rattle.sqlite.specs.Order.{Row}
use Rattle.sqlite_rules.specs.Lists.{Has}
use Rattle.store_check.specs.RowChecks.{IsKeepRow}
use Rattle.store_check.proofs.books.first_bad_keep.Given as goal

-- the remaining rows decide, and are rows of the list
abbrev pub invariant-loop-row : goal.invariant-loop-row
invariant-loop-row l =
    (AllByRecursion IsKeepRow (drop l.row-index l.rows) → AllByRecursion IsKeepRow l.rows)
    × ((r : Row) → Has (drop l.row-index l.rows) r → Has l.rows r)
