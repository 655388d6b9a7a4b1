use Rattle.std.proofs.Common.{◌≡◌, ◌<◌, ◌≤◌, ℕ, Option, Some, length, slice_get}
use Rattle.socket_endpoint.specs.LingerSlots.{slot_rank}
use Rattle.socket_endpoint.specs.declared.lingerers.Lingerer.{Lingerer}
use Rattle.socket_endpoint.proofs.lingerers.next_slot.Given as goal

-- no slot before this one comes before the best
abbrev pub invariant-loop-slot : goal.invariant-loop-slot
invariant-loop-slot g l =
    (0 < length l.slots → l.best < length l.slots)
    × ((other : ℕ) → (slot chosen : Option (Lingerer g.row.C.Denot)) → other < l.slot
    → slice_get l.slots other ≡ Some slot → slice_get l.slots l.best ≡ Some chosen
    → slot_rank chosen ≤ slot_rank slot)
