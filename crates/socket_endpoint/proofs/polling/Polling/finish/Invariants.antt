use Rattle.socket_endpoint.specs.SocketEvents.{Waits}
use Rattle.socket_endpoint.proofs.polling.Polling.finish.Given as goal

-- so many waits were made
abbrev pub invariant-loop-wait : goal.invariant-loop-wait
invariant-loop-wait g l = Waits g.S.Sockets.log l._wait l.fn.self l.self
