use Rattle.hub_server.specs.Needs.{steps_left}
use Rattle.hub_server.proofs.ServingLemmas.{ServesPlace}
use Rattle.hub_server.proofs.server.Server.serve_place.Given as goal

abbrev pub invariant-loop-alloc : goal.invariant-loop-alloc
invariant-loop-alloc g l = ServesPlace g.H.Handler.does g.H.Handler.fault_reply g.E.Endpoint.calls
    l.limits l.place l.fn.self l.fn.handler l.fn.endpoint l.self l.handler l.endpoint

abbrev pub decreases-loop-alloc : goal.decreases-loop-alloc
decreases-loop-alloc g l = steps_left l.self l.place
