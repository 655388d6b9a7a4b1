use Rattle.std.proofs.Common.{subst}
use Rattle.socket_endpoint.specs.SocketEvents.{ClosesAll}
use Rattle.socket_endpoint.proofs.endpoint.EndpointOver.finish.Goals as goal

pub returns : goal.returns
returns g c = record {
  closed = c.close_all.new.self;
  waited = c.finish.new.self;
  closes = subst (λ places. ClosesAll g.S.Sockets.log places c.args.self.polling
      c.close_all.new.self) c.deref_mut.ensures.value c.close_all.ensures;
  waits = c.finish.ensures;
  system_is = c.into_system.ensures;
}
