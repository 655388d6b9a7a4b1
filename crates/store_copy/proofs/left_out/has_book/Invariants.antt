use Rattle.std.proofs.Common.{◌≡◌, map, take, false}
use Rattle.std.specs.List.{list_any}
use Rattle.store_check.specs.RowChecks.{decode_book}
use Rattle.store_tables.specs.Books.{has_name}
use Rattle.store_copy.proofs.left_out.has_book.Given as goal

-- none so far has the name
abbrev pub invariant-loop-i : goal.invariant-loop-i
invariant-loop-i l = list_any (has_name l.name) (map decode_book (take l.i l.books)) ≡ false
