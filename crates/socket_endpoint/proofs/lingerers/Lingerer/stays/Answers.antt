use Rattle.std.proofs.Common.{length}
use Rattle.socket_endpoint.proofs.LookLemmas.{goes_over, stays_if}
use Rattle.socket_endpoint.proofs.lingerers.Lingerer.stays.Goals as goal

pub returns-then-is_over-clause-stays : goal.returns-then-is_over-clause-stays
returns-then-is_over-clause-stays g c =
    let log = g.S.Sockets.log in
    goes_over c.args.self.now c.is_over.new.self (length c.args.room.now) c.args.now c.args.slots
    c.args.slot c.is_over.result (log c.args.system.now) (log c.is_over.new.system)
    c.if-is_over.true c.is_over.ensures

pub returns-clause-stays : goal.returns-clause-stays
returns-clause-stays g c =
    let log = g.S.Sockets.log in
    stays_if c.args.self.now c.is_over.new.self c.watch.new.self (length c.args.room.now) c.args.now
    c.args.slots c.args.slot c.is_over.result c.watch.result (log c.args.system.now) (log
    c.is_over.new.system) (log c.watch.new.system)
    c.if-is_over.false c.is_over.ensures c.watch.ensures.same c.watch.ensures.watched
