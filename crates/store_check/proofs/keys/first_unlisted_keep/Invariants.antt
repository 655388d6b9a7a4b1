use Rattle.std.proofs.Common.{drop, map}
use Rattle.std.specs.List.{AllByRecursion}
use Rattle.sqlite.specs.Order.{Row}
use Rattle.sqlite_rules.specs.Lists.{Has}
use Rattle.store_tables.specs.Keeps.{KeepRow}
use Rattle.store_rows.specs.SoundTables.{HasBookId}
use Rattle.store_check.specs.RowChecks.{decode_book, decode_keep}
use Rattle.store_check.proofs.keys.first_unlisted_keep.Given as goal

-- the remaining rows decide, and are rows of the list
abbrev pub invariant-loop-keep : goal.invariant-loop-keep
invariant-loop-keep l =
    (AllByRecursion (λ (k : KeepRow). HasBookId (map decode_book l.books) k.book)
    (map decode_keep (drop l.keep-index l.keeps))
    → AllByRecursion (λ (k : KeepRow). HasBookId (map decode_book l.books) k.book)
    (map decode_keep l.keeps))
    × ((r : Row) → Has (drop l.keep-index l.keeps) r → Has l.keeps r)
