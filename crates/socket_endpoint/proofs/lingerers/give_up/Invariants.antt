use Rattle.std.proofs.Common.{◌≡◌, ◌++◌, drop, map, take}
use Rattle.socket_endpoint.specs.LingerSlots.{slot_after}
use Rattle.socket_endpoint.proofs.lingerers.give_up.Given as goal

-- the slots that were looked at, and then the others
abbrev pub invariant-loop-slot : goal.invariant-loop-slot
invariant-loop-slot g l = l.slots ≡ map (slot_after l.now) (take l.slot l.fn.slots) ++ drop l.slot
    l.fn.slots
