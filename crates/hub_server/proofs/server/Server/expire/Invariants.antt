use Rattle.hub_server.proofs.ExpiringLemmas.{ExpiresBelow}
use Rattle.hub_server.proofs.server.Server.expire.Given as goal

abbrev pub invariant-loop-place : goal.invariant-loop-place
invariant-loop-place g l = ExpiresBelow g.E.Endpoint.calls l.limits l.place-end l.place l.fn.self
    l.fn.endpoint l.self l.endpoint
