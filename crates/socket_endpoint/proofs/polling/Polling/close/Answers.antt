use Rattle.std.proofs.Common.{refl}
use Rattle.socket_endpoint.proofs.EventLemmas.{closes_by}
use Rattle.socket_endpoint.proofs.polling.Polling.close.Goals as goal

pub returns : goal.returns
returns g c =
    let log = g.S.Sockets.log in
    closes_by log c.args.stream c.args.self.now _ c.millis.result c.unwrap_or-now.result (log
    c.millis.new.self)
    c.unwrap_or-now.ensures c.millis.ensures c.add.ensures refl
