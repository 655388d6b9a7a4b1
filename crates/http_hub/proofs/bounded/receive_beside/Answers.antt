use Rattle.http_hub.proofs.HoldingLemmas.{open_changed, others_after, settled}
use Rattle.http_hub.proofs.bounded.receive_beside.Goals as goal

pub settle-requires-clause-is_open : goal.settle-requires-clause-is_open
settle-requires-clause-is_open g c =
    let r = c.in-Ok.ensures.received in
    open_changed c.args.place r.link r.next c.args.hub.now c.receive.new.self r.found
    r.after_is

pub settle-requires-clause-others : goal.settle-requires-clause-others
settle-requires-clause-others g c =
    let r = c.in-Ok.ensures.received in
    others_after c.args.others c.args.place r.link r.next c.args.hub.now
    c.receive.new.self r.found r.after_is (c.requires.others r.link r.found)

pub returns-in-Ok : goal.returns-in-Ok
returns-in-Ok g c =
    settled g.H.Handler.does g.H.Handler.fault_reply c.args.most c.args.place c.args.hub.now
    c.args.handler.now c.args.piece.now c.args.now
    c.receive.new.handler c.receive.new.self c.settle.new.hub c.in-Ok.ensures.received
    c.settle.ensures
