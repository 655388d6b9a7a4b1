use Rattle.std.proofs.Common.{rules}
use Rattle.std.specs.FinMap as finite
use Rattle.std.specs.Option.{IsSome}
use Rattle.vcard_text.specs.Cards.{uid_of}
use Rattle.card_conversion.specs.Deliveries.{HasUids}
use Rattle.card_conversion.specs.internal.States.{TakesAfter}
use Rattle.card_conversion.proofs.MovedLemmas.{for_each}
use Rattle.card_conversion.proofs.pieces.deliver_piece.Goals as goal

pub returns-then-is_some : goal.returns-then-is_some
returns-then-is_some g c converted =
    let some : IsSome (finite.get c.args.uids.now (uid_of c.args.conversion.card)) = search rules in
    for_each c.take_again.result (HasUids c.args.uids.now) (λ known. TakesAfter g.O.CardSink.writes
    c.args.piece.now known c.take_again.new.uids c.args.sink.now c.take_again.new.sink)
    (λ known has. c.take_again.ensures known has ((has (uid_of c.args.conversion.card)).0 some)
    converted)
