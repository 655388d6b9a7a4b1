use Rattle.std.proofs.Common.{◌≤◌, [], ◌∙◌, subst}
use Rattle.std.proofs.lemmas.List.{get_or_default}
use Rattle.store_check.specs.RowChecks.{int_cell}
use Rattle.store_rows.specs.Values.{natural}
use Rattle.store_copy.proofs.LoopLemmas.{bound_more}
use Rattle.store_copy.proofs.numbers.greatest_number.Goals as goal

pub loop-i-preserved : goal.loop-i-preserved
loop-i-preserved c =
    let made = c.greater_number-greatest in
    let books = c.args.books.now in
    let same = c.index-books-i.is ∙ get_or_default books c.loop-i.i _ [] c.loop-i-test.true in
    bound_more books c.loop-i.i [] _ made.result c.loop-i-test.true c.loop-i.invariant
    made.ensures.other
    (subst (λ row. natural (int_cell 2 row) ≤ made.result) same made.ensures.own)
