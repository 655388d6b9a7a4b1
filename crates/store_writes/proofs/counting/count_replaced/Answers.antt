use Rattle.std.proofs.Common.{rules, ◌≡◌, ◌-◌, Some, None, sym, subst, ◌∙◌, arith}
use Rattle.std.specs.FinMap as finite
use Rattle.book_model.proofs.EntryLemmas.{absent_removed, right_cleared, right_number, right_same}
use Rattle.book_model.proofs.EntryLemmas.{right_set}
use Rattle.book_model.specs.Counts.{AreCountsOf, CountsByName, IsWritten}
use Rattle.book_model.specs.BookQueries.{tombstone_count}
use Rattle.store_writes.proofs.counting.count_replaced.Goals as goal

pub returns-then-replaced-eq0 : goal.returns-then-replaced-eq0
returns-then-replaced-eq0 c books before after right at fewer =
    let none : c.args.replaced ≡ 0 = search rules in
    let same : tombstone_count after ≡ tombstone_count before = omega (arith, fewer, none) in
    right_same c.args.counts.now books c.args.name.now before after right at same

pub returns-in-Some : goal.returns-in-Some
returns-in-Some c books before after right at fewer =
    let kept : finite.get c.args.counts.now c.args.name.now ≡ Some c.in-Some.number =
    sym c.get.ensures ∙ c.in-Some.is in
    let number : tombstone_count before ≡ c.in-Some.number =
    right_number c.args.counts.now books c.args.name.now before c.in-Some.number right at
    kept in
    let less : c.saturating_sub.result ≡ c.in-Some.number - c.args.replaced =
    c.saturating_sub.ensures in
    let is : c.saturating_sub.result ≡ tombstone_count after = omega (arith, fewer, number, less) in
    right_set c.args.counts.now c.set.new.self books c.args.name.now after right
    (subst (λ n. IsWritten c.args.counts.now c.set.new.self c.args.name.now n) is c.set.ensures)

pub returns-in_default : goal.returns-in_default
returns-in_default c books before after right at fewer =
    let absent : finite.get c.args.counts.now c.args.name.now ≡ None = sym c.get.ensures
    ∙ c.in_default.is in
    subst (λ (counts : CountsByName). AreCountsOf counts (finite.insert books c.args.name.now
    after)) (sym (absent_removed c.args.counts.now c.args.name.now absent))
    (right_cleared c.args.counts.now books c.args.name.now after right)
