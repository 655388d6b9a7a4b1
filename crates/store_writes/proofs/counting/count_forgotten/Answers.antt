use Rattle.std.proofs.Common.{rules, ◌≡◌, sym, subst, ◌∙◌}
use Rattle.std.specs.FinMap as finite
use Rattle.book_model.proofs.EntryLemmas.{right_cleared, right_same}
use Rattle.book_model.specs.Counts.{AreCountsOf}
use Rattle.book_model.specs.Forgetting.{book_after_forget}
use Rattle.store_writes.proofs.ForgottenCounts.{none_forgotten}
use Rattle.store_writes.proofs.counting.count_forgotten.Goals as goal

pub returns-then-dropped-gt0 : goal.returns-then-dropped-gt0
returns-then-dropped-gt0 c books before upto right at rises dropped =
    subst (λ counts. AreCountsOf counts (finite.insert books c.args.name.now
    (book_after_forget before upto))) (sym c.clear.ensures)
    (right_cleared c.args.counts.now books c.args.name.now (book_after_forget before upto) right)

pub returns-else-dropped-gt0 : goal.returns-else-dropped-gt0
returns-else-dropped-gt0 c books before upto right at rises dropped =
    let none : c.args.dropped ≡ 0 = search rules in
    right_same c.args.counts.now books c.args.name.now before (book_after_forget before upto) right
    at (none_forgotten before upto rises (sym dropped ∙ none))
