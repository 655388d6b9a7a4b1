use Rattle.std.proofs.Common.{◌≡◌, map, take, true}
use Rattle.std.specs.List.{AllByRecursion, list_any}
use Rattle.store_check.specs.RowChecks.{decode_book}
use Rattle.store_tables.specs.Books.{has_name}
use Rattle.store_copy.proofs.left_out.has_books.Given as goal

-- each name so far is that of a book
abbrev pub invariant-loop-i : goal.invariant-loop-i
invariant-loop-i l = AllByRecursion (λ name. list_any (has_name name)
    (map decode_book l.rows.others.books.items) ≡ true) (take l.i l.names)
