use Rattle.std.proofs.Common.{[], ◌∙◌, ap, sym}
use Rattle.std.proofs.lemmas.List.{get_or_default}
use Rattle.store_check.specs.RowChecks.{decode_book}
use Rattle.store_tables.specs.Books.{has_name}
use Rattle.store_copy.proofs.LoopLemmas.{any_yes}
use Rattle.store_copy.proofs.left_out.has_book.Goals as goal

pub returns-then-has_name : goal.returns-then-has_name
returns-then-has_name c =
    let same = c.index-books-i.is ∙ get_or_default c.args.books.now c.loop-i.i _ []
    c.loop-i-test.true in
    sym (any_yes (has_name c.args.name.now) decode_book c.args.books.now c.loop-i.i []
    c.loop-i-test.true
    (sym (ap (λ row. has_name c.args.name.now (decode_book row)) same) ∙ sym c.has_name.ensures
    ∙ c.if-has_name.true))
