use Rattle.std.proofs.Common.{[], map, take}
use Rattle.store_check.specs.MemberTallies.{AreCounted}
use Rattle.store_check.specs.RowChecks.{decode_book}
use Rattle.store_check.proofs.tallies.start_tallies.Given as goal

-- the books so far
abbrev pub invariant-loop-book : goal.invariant-loop-book
invariant-loop-book l = AreCounted [] (map decode_book (take l.book-index l.books)) l.tallies.items
