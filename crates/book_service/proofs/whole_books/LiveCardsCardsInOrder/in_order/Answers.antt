use Rattle.std.proofs.Common.{rules, ◌≡◌, map, sym, ap, ◌∙◌}
use Rattle.std.specs.Map.Iter.{deref_pair}
use Rattle.std.proofs.lemmas.Map.Iter.{iter_end}
use Rattle.book_service.proofs.WholeBookLemmas.{values-lines}
use Rattle.book_service.proofs.whole_books.LiveCardsCardsInOrder.in_order.Goals as goal

pub returns : goal.returns
returns c =
    let all : map deref_pair c.loop-stored.yielded ≡ c.args.self.now.stored.entries =
    search (rules, iter_end) in
    c.loop-stored.invariant ∙ ap (map (λ e. e.1.card)) all
    ∙ sym (values-lines c.args.self.now.stored c.iter-stored-items.ensures.ordered)
