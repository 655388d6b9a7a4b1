use Rattle.socket_endpoint.proofs.EndpointLemmas.{read_does}
use Rattle.socket_endpoint.proofs.endpoint.EndpointOverEndpoint.read.Goals as goal

pub returns-clause-event : goal.returns-clause-event
returns-clause-event g c = read_does g.S.Sockets.log c.args.place c.read_at.new.buffer
    c.read_at.result c.args.self.now c.read_at.new.self c.read_at.ensures.reads
