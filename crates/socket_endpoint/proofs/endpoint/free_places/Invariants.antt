use Rattle.std.proofs.Common.{◌≡◌, None, replicate}
use Rattle.socket_endpoint.proofs.endpoint.free_places.Given as goal

abbrev pub invariant-loop-place : goal.invariant-loop-place
invariant-loop-place g l = l.places.items ≡ replicate l._place None
