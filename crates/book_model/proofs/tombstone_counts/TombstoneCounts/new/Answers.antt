use Rattle.std.proofs.Common.{sym, subst}
use Rattle.book_model.specs.Counts.{AreCountsOf}
use Rattle.book_model.proofs.EntryLemmas.{none_right}
use Rattle.book_model.proofs.tombstone_counts.TombstoneCounts.new.Goals as goal

pub returns-clause-right : goal.returns-clause-right
returns-clause-right c books = subst (λ counts. AreCountsOf counts books) (sym c.new.ensures)
    (none_right books)
