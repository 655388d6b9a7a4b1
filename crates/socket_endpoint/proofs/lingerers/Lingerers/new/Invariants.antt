use Rattle.std.proofs.Common.{◌≡◌, None, replicate}
use Rattle.socket_endpoint.proofs.lingerers.Lingerers.new.Given as goal

abbrev pub invariant-loop-slot : goal.invariant-loop-slot
invariant-loop-slot g l = l.slots.items ≡ replicate l._slot None
