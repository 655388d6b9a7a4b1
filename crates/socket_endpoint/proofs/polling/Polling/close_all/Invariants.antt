use Rattle.std.proofs.Common.{drop}
use Rattle.socket_endpoint.specs.SocketEvents.{ClosesAll}
use Rattle.socket_endpoint.specs.declared.polling.Polling.{Polling}
use Rattle.socket_endpoint.proofs.polling.Polling.close_all.Given as goal

-- whoever closes the sockets that are left, closes all
abbrev pub invariant-loop-place : goal.invariant-loop-place
invariant-loop-place g l =
    (last : Polling g.row.S.Denot g.row.C.Denot) → ClosesAll g.S.Sockets.log (drop l.place l.places)
    l.self last → ClosesAll g.S.Sockets.log l.fn.places l.fn.self last
