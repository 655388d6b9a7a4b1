use Rattle.std.proofs.Common.{◌∙◌, ◌<◌, ap, arith, false, get_or, length, sym}
use Rattle.hub_server.specs.Seats.{SeatValue, seat_after_wait}
use Rattle.hub_server.proofs.SeatLemmas.{begins_more, wait_none}
use Rattle.hub_server.proofs.awaiting.begin_turns.Goals as goal

pub loop-place-init : goal.loop-place-init
loop-place-init c = sym (wait_none c.args.seats.now)

pub loop-place-preserved : goal.loop-place-preserved
loop-place-preserved c =
    let there : c.loop-place.place < length c.loop-place.seats =
    omega (arith, c.loop-place-test.true, c.loop-place.auto.seats, c.requires) in
    begins_more c.args.ready.now c.args.seats.now c.loop-place.seats c.loop-place.place
    c.index-seats-place.result c.begin_turn.new.self c.loop-place-test.true there
    c.loop-place.invariant c.index-seats-place.is
    (c.begin_turn.ensures ∙ ap (λ (x : SeatValue). seat_after_wait
    (get_or c.args.ready.now c.loop-place.place false) x) (sym c.index-seats-place.is))
