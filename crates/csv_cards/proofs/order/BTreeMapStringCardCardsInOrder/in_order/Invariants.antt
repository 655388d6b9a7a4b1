use Rattle.std.proofs.Common.{◌≡◌, map}
use Rattle.std.specs.Map.Iter.{deref_pair}
use Rattle.csv_cards.proofs.order.BTreeMapStringCardCardsInOrder.in_order.Given as goal

-- the cards so far are those of the entries that the map has given
abbrev pub invariant-loop-card : goal.invariant-loop-card
invariant-loop-card l = map (λ card. card.now) l.list.items
    ≡ map (λ e. e.1) (map deref_pair l.yielded)
