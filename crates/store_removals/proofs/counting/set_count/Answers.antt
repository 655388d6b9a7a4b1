use Rattle.std.proofs.Common.{◌≡◌, IfSome, sym, subst}
use Rattle.std.specs.FinMap as finite
use Rattle.book_model.proofs.EntryLemmas.{right_cleared, right_set}
use Rattle.book_model.specs.Counts.{AreCountsOf, CountsByName, IsWritten}
use Rattle.book_model.specs.BookQueries.{tombstone_count}
use Rattle.store_removals.proofs.counting.set_count.Goals as goal

pub returns-in-Some : goal.returns-in-Some
returns-in-Some c books after right known =
    let is : tombstone_count after ≡ c.in-Some.number =
    subst (λ o. IfSome o (λ n. tombstone_count after ≡ n)) c.in-Some.is known in
    right_set c.args.counts.now c.set.new.self books c.args.name.now after right
    (subst (λ n. IsWritten c.args.counts.now c.set.new.self c.args.name.now n) (sym is)
    c.set.ensures)

pub returns-in-None : goal.returns-in-None
returns-in-None c books after right known =
    subst (λ (counts : CountsByName). AreCountsOf counts (finite.insert books c.args.name.now
    after)) (sym c.clear.ensures)
    (right_cleared c.args.counts.now books c.args.name.now after right)
