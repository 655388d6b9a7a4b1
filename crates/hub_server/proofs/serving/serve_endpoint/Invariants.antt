use Rattle.std.proofs.Common.{◌≡◌, length}
use Rattle.hub_server.proofs.ServingLemmas.{RoundsSoFar}
use Rattle.hub_server.proofs.serving.serve_endpoint.Given as goal

abbrev pub invariant-loop-wait : goal.invariant-loop-wait
invariant-loop-wait g l =
    RoundsSoFar g.H.Handler.does g.H.Handler.fault_reply g.E.Endpoint.calls l.limits l._wait
    l.fn.handler l.fn.endpoint l.server l.handler l.endpoint
    × (length l.ready.items ≡ l.limits.together)
