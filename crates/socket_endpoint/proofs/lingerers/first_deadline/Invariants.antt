use Rattle.std.proofs.Common.{◌≡◌, take}
use Rattle.socket_endpoint.specs.LingerSlots.{first_deadline}
use Rattle.socket_endpoint.proofs.lingerers.first_deadline.Given as goal

abbrev pub invariant-loop-slot : goal.invariant-loop-slot
invariant-loop-slot g l = l.first ≡ first_deadline (take l.slot-index l.slots)
