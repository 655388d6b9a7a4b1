use Rattle.std.proofs.Common.{◌≡◌, drop, find, map}
use Rattle.store_tables.specs.Books.{has_id}
use Rattle.store_check.specs.RowChecks.{decode_book}
use Rattle.store_check.proofs.books.book_with_id.Given as goal

-- the remaining rows decide
abbrev pub invariant-loop-book : goal.invariant-loop-book
invariant-loop-book l = find (has_id l.id) (map decode_book (drop l.book-index l.books))
    ≡ find (has_id l.id) (map decode_book l.books)
