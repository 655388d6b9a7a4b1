use Rattle.std.proofs.Common.{◌≡◌, drop, map}
use Rattle.store_rows.specs.TableBooks.{keep_of_book}
use Rattle.store_check.specs.RowChecks.{decode_keep}
use Rattle.store_check.proofs.books.keep_of.Given as goal

-- the remaining rows decide
abbrev pub invariant-loop-keep : goal.invariant-loop-keep
invariant-loop-keep l = keep_of_book l.id (map decode_keep (drop l.keep-index l.keeps))
    ≡ keep_of_book l.id (map decode_keep l.keeps)
