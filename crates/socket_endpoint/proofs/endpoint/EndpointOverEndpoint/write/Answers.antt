use Rattle.socket_endpoint.proofs.EndpointLemmas.{write_does}
use Rattle.socket_endpoint.proofs.endpoint.EndpointOverEndpoint.write.Goals as goal

pub returns-clause-event : goal.returns-clause-event
returns-clause-event g c = write_does g.S.Sockets.log c.args.place c.args.octets.now
    c.write_at.result c.args.self.now c.write_at.new.self c.write_at.ensures.writes
