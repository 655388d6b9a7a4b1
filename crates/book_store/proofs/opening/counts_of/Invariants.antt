use Rattle.std.specs.List.{AllByRecursion}
use Rattle.book_model.specs.Books.{Books}
use Rattle.book_model.specs.Counts.{AreCountsOf}
use Rattle.store_check.specs.TombstoneCounts.{IsCountOf}
use Rattle.book_store.proofs.opening.counts_of.Given as goal

abbrev pub invariant-loop-count : goal.invariant-loop-count
invariant-loop-count l = (books : Books) → AllByRecursion (IsCountOf books) l.found
    → AreCountsOf l.counts books
