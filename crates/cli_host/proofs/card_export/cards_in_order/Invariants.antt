use Rattle.std.proofs.Common.{◌≡◌, map}
use Rattle.std.specs.Map.Iter.{deref_pair}
use Rattle.cli_host.proofs.card_export.cards_in_order.Given as goal

-- the cards so far are those that the map's iterator returned
abbrev pub invariant-loop-stored : goal.invariant-loop-stored
invariant-loop-stored l = map (λ card. card.now) l.list.items ≡ map (λ e. e.1.card)
    (map deref_pair l.yielded)
