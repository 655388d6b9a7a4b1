use Rattle.std.proofs.Common.{length}
use Rattle.store_check.proofs.counts.+push_counts.Given as goal

-- the books that are left
abbrev pub decreases-push_counts : goal.decreases-push_counts
decreases-push_counts l = length l.books.now
