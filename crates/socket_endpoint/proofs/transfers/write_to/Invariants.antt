use Rattle.socket_endpoint.specs.SocketCalls.{Repeats}
use Rattle.socket_endpoint.specs.Transfers.{IsInterruptedWrite}
use Rattle.socket_endpoint.proofs.transfers.write_to.Given as goal

-- each write so far was interrupted
abbrev pub invariant-loop-try : goal.invariant-loop-try
invariant-loop-try g l =
    Repeats (IsInterruptedWrite l.stream l.octets) l._try (g.S.Sockets.log l.fn.system)
    (g.S.Sockets.log l.system)
