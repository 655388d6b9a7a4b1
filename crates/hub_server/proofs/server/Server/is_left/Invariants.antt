use Rattle.hub_server.proofs.AwaitingLemmas.{NoneLeftBelow}
use Rattle.hub_server.proofs.server.Server.is_left.Given as goal

abbrev pub invariant-loop-place : goal.invariant-loop-place
invariant-loop-place l = NoneLeftBelow l.self l.place
