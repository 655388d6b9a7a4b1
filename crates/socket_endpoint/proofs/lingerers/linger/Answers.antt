use Rattle.std.proofs.Common.{Some, false, length, refl, set, true}
use Rattle.socket_endpoint.proofs.LookLemmas.{lingers_by}
use Rattle.socket_endpoint.proofs.lingerers.linger.Goals as goal

pub returns-then-not-stays : goal.returns-then-not-stays
returns-then-not-stays g c =
    let log = g.S.Sockets.log in
    lingers_by c.args.stream c.new.result c.stays.new.self (length c.args.room.now) c.args.now
    c.next_slot-slot.result c.stays.result false c.args.slots.now c.args.slots.now (log
    c.args.system.now) (log c.stays.new.system)
    c.new.ensures c.next_slot-slot.ensures.first c.if-not-stays.true c.stays.ensures.stays refl

pub returns : goal.returns
returns g c =
    let log = g.S.Sockets.log in
    lingers_by c.args.stream c.new.result c.stays.new.self (length c.args.room.now) c.args.now
    c.next_slot-slot.result c.stays.result true c.args.slots.now (set c.args.slots.now
    c.next_slot-slot.result (Some c.stays.new.self)) (log c.args.system.now) (log
    c.stays.new.system)
    c.new.ensures c.next_slot-slot.ensures.first c.if-not-stays.false c.stays.ensures.stays refl
