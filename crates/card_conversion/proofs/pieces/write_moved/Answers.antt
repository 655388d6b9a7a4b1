use Rattle.std.proofs.Common.{subst, inr}
use Rattle.card_conversion.specs.internal.States.{DeliversNew}
use Rattle.card_conversion.proofs.pieces.write_moved.Goals as goal

pub returns-in-Refused : goal.returns-in-Refused
returns-in-Refused g c known has apart new =
    let delivers = subst (λ d. DeliversNew g.O.CardSink.writes known c.args.piece.now c.args.moved
    c.write_new.new.uids c.args.sink.now c.write_new.new.sink d) c.in-Refused.is
    (c.in_ok-write_new.ensures known has) in
    ((inr apart, new), delivers.0, delivers.1)
