use Rattle.socket_endpoint.proofs.EndpointLemmas.{accept_does}
use Rattle.socket_endpoint.proofs.endpoint.EndpointOverEndpoint.accept.Goals as goal

pub returns : goal.returns
returns g c = accept_does g.S.Sockets.log c.args.place c.accept_at.result c.args.self.now
    c.accept_at.new.self c.accept_at.ensures
