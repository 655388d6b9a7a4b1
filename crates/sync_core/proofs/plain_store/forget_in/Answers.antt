use Rattle.std.proofs.Common.{◌≡◌, IfSome, Option, ap, ◌∙◌, subst}
use Rattle.std.specs.FinMap as finite
use Rattle.book_model.specs.Books.{Book}
use Rattle.book_model.specs.Forgetting.{book_after_forget}
use Rattle.sync_core.proofs.MapLemmas.{in_place}
use Rattle.sync_core.proofs.plain_store.forget_in.Goals as goal

pub returns-clause-books : goal.returns-clause-books
returns-clause-books c =
    subst (λ (o : Option Book). IfSome o (λ book. c.replace-2.new.self
    ≡ finite.insert c.args.books.now c.args.name.now (book_after_forget book c.args.upto)))
    c.in-Some.ensures.value
    (in_place c.args.books.now c.replace.new.self c.replace-2.new.self c.args.name.now c.new.result
    c.forget-dropped.new.self c.replace-2.result c.in-Some.ensures.written
    c.replace-2.ensures.value c.replace-2.ensures.written
    ∙ ap (finite.insert c.args.books.now c.args.name.now) c.forget-dropped.ensures.book)
