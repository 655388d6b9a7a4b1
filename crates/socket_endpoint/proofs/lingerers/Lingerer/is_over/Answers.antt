use Rattle.std.proofs.Common.{length, refl}
use Rattle.socket_endpoint.proofs.LookLemmas.{looks_ended, looks_on}
use Rattle.socket_endpoint.proofs.lingerers.Lingerer.is_over.Goals as goal

pub returns-in-Ended : goal.returns-in-Ended
returns-in-Ended g c =
    let log = g.S.Sockets.log in
    looks_ended c.args.self.now (record {
      stream = c.args.self.now.stream;
      linger =
          c.note_dropped.new.self;
    }) (length c.args.room.now) c.args.now c.octets_left-most.result
    c.drop_input-count.result.0 c.drop_input-count.result.1 (log c.args.system.now) (log
    c.drop_input-count.new.system)
    c.octets_left-most.ensures c.drop_input-count.ensures.read refl c.note_dropped.ensures
    c.in-Ended.is

pub returns : goal.returns
returns g c =
    let log = g.S.Sockets.log in
    looks_on c.args.self.now (record {
      stream = c.args.self.now.stream;
      linger =
          c.note_dropped.new.self;
    }) (length c.args.room.now) c.args.now c.octets_left-most.result
    c.drop_input-count.result.0 c.drop_input-count.result.1 c.is_given_up.result (log
    c.args.system.now) (log c.drop_input-count.new.system)
    c.octets_left-most.ensures c.drop_input-count.ensures.read refl c.note_dropped.ensures
    c.in_default.not-Ended c.is_given_up.ensures
