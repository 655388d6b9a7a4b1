use Rattle.std.proofs.Common.{◌∙◌, ◌<◌, None, ap, arith, get_or, length}
use Rattle.std.proofs.lemmas.List.{get_or_default}
use Rattle.std.proofs.lemmas.Option.{slice_get-get_or}
use Rattle.socket_endpoint.specs.LingerSlots.{slot_after}
use Rattle.socket_endpoint.proofs.LoopLemmas.{maps_next}
use Rattle.socket_endpoint.proofs.lingerers.give_up.Goals as goal

pub loop-slot-preserved : goal.loop-slot-preserved
loop-slot-preserved g c =
    let there : c.loop-slot.slot < length c.loop-slot.slots = omega (
      arith,
      c.loop-slot-test.true,
      c.loop-slot.auto.slots,
    ) in
    let was = get_or_default c.loop-slot.slots c.loop-slot.slot c.index-slots-slot.result None there
    in
    maps_next (slot_after c.args.now) c.args.slots.now c.loop-slot.slots c.loop-slot.slot (get_or
    c.loop-slot.slots c.loop-slot.slot None) c.give_up_slot.new.slot
    (slice_get-get_or c.loop-slot.slots c.loop-slot.slot None there) c.loop-slot.invariant
    (c.give_up_slot.ensures ∙ ap (slot_after c.args.now) was)
