use Rattle.std.proofs.Common.{rules, ◌≡◌, map, sym, ap, ◌∙◌}
use Rattle.std.specs.Map.Iter.{deref_pair}
use Rattle.std.proofs.lemmas.Map.Iter.{iter_end}
use Rattle.book_service.proofs.WholeBookLemmas.{values-lines}
use Rattle.cli_host.proofs.card_export.cards_in_order.Goals as goal

pub returns : goal.returns
returns c =
    let all : map deref_pair c.loop-stored.yielded ≡ c.args.cards.now.entries =
    search (rules, iter_end) in
    c.loop-stored.invariant ∙ ap (map (λ e. e.1.card)) all
    ∙ sym (values-lines c.args.cards.now c.iter-stored-items.ensures.ordered)
