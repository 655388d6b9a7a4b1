use Rattle.hub_server.proofs.ServingLemmas.{ServesBelow}
use Rattle.hub_server.proofs.server.Server.serve_ready.Given as goal

abbrev pub invariant-loop-place : goal.invariant-loop-place
invariant-loop-place g l = ServesBelow g.H.Handler.does g.H.Handler.fault_reply g.E.Endpoint.calls
    l.limits l.place-end l.place l.fn.self l.fn.handler l.fn.endpoint l.self l.handler l.endpoint
