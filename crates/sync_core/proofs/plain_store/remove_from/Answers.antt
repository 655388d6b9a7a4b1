use Rattle.std.proofs.Common.{◌≡◌, ◌<◌, IfSome, IsSome, IsSomeAnd, Option, sym, ap, ◌∙◌, subst}
use Rattle.std.specs.FinMap as finite
use Rattle.book_model.specs.Books.{Book}
use Rattle.book_model.specs.BookChanges.{book_after_change}
use Rattle.book_model.specs.declared.change.Change.TheVariants.{TakesAway}
use Rattle.book_model.specs.declared.change.RemovalReason.TheVariants.{Deletion}
use Rattle.sync_core.proofs.MapLemmas.{in_place}
use Rattle.sync_core.proofs.plain_store.remove_from.Goals as goal

pub returns : goal.returns
returns c =
    let has = subst (λ (o : Option Book). IsSomeAnd o (λ book. (book.number < 9223372036854775808)
    × IsSome (finite.get book.members c.args.uid.now))) (sym c.in-Some.ensures.value)
    c.requires in
    subst (λ (o : Option Book). IfSome o (λ book. c.replace-2.new.self
    ≡ finite.insert c.args.books.now c.args.name.now (book_after_change book c.args.uid.now
    (TakesAway Deletion)))) c.in-Some.ensures.value
    (in_place c.args.books.now c.replace.new.self c.replace-2.new.self c.args.name.now c.new.result
    c.remove_card.new.self c.replace-2.result c.in-Some.ensures.written
    c.replace-2.ensures.value c.replace-2.ensures.written
    ∙ ap (finite.insert c.args.books.now c.args.name.now) (c.remove_card.ensures.written has.1))
