use Rattle.std.proofs.Common.{◌≡◌, map, take}
use Rattle.store_check.specs.RowChecks.{decode_book}
use Rattle.store_copy.specs.RowsWithout.{named_ids}
use Rattle.store_copy.proofs.left_out.named_ids.Given as goal

-- the ids so far
abbrev pub invariant-loop-book : goal.invariant-loop-book
invariant-loop-book l = l.ids.items ≡ named_ids l.names
    (map decode_book (take l.book-index l.books))
