use Rattle.hub_server.specs.Acceptings.{free_count}
use Rattle.hub_server.proofs.AcceptingLemmas.{AcceptsSoFar}
use Rattle.hub_server.proofs.server.Server.accept_all.Given as goal

abbrev pub invariant-loop-alloc : goal.invariant-loop-alloc
invariant-loop-alloc g l = AcceptsSoFar g.E.Endpoint.calls l.limits l.fn.self l.fn.endpoint l.self
    l.endpoint

abbrev pub decreases-loop-alloc : goal.decreases-loop-alloc
decreases-loop-alloc g l = free_count l.self
