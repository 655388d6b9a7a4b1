use Rattle.std.proofs.Common.{◌≡◌, length}
use Rattle.socket_endpoint.specs.SocketCalls.{Repeats}
use Rattle.socket_endpoint.specs.Transfers.{IsInterruptedRead}
use Rattle.socket_endpoint.proofs.transfers.read_from.Given as goal

-- each read so far was interrupted
abbrev pub invariant-loop-try : goal.invariant-loop-try
invariant-loop-try g l =
    Repeats (IsInterruptedRead l.stream) l._try (g.S.Sockets.log l.fn.system) (g.S.Sockets.log
    l.system) × (length l.buffer ≡ length l.fn.buffer)
