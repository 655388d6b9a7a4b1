use Rattle.socket_endpoint.specs.SocketCalls.{Repeats}
use Rattle.socket_endpoint.specs.SocketEvents.{FailsToAccept, KeepsSockets}
use Rattle.socket_endpoint.specs.declared.accept_causes.AcceptCause.TheVariants.{TriesAgain}
use Rattle.socket_endpoint.proofs.endpoint.EndpointOver.accept_at.Given as goal

-- at each try so far a connection failed before it was accepted
abbrev pub invariant-loop-try : goal.invariant-loop-try
invariant-loop-try g l =
    Repeats (FailsToAccept TriesAgain l.fn.self.listener) l._try (g.S.Sockets.log
    l.fn.self.polling.system) (g.S.Sockets.log l.self.polling.system)
    × KeepsSockets l.fn.self l.self
