use Rattle.std.proofs.Common.{length}
use Rattle.store_check.proofs.books.+first_faulty_book.Given as goal

-- the books that are left
abbrev pub decreases-first_faulty_book : goal.decreases-first_faulty_book
decreases-first_faulty_book l = length l.books.now
