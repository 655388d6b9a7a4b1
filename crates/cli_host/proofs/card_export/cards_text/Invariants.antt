use Rattle.std.proofs.Common.{◌≡◌, flat_map, map, take}
use Rattle.cli_host.specs.CardFiles.{one_text}
use Rattle.cli_host.proofs.card_export.cards_text.Given as goal

-- the texts of the cards so far
abbrev pub invariant-loop-card : goal.invariant-loop-card
invariant-loop-card l = l.out.items ≡ flat_map (one_text l.is_older)
    (map (λ card. card.now) (take l.card-index l.cards))
