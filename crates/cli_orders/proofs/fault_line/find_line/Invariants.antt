use Rattle.std.proofs.Common.{◌≡◌, ◌⊎◌, ◌-◌, ◌<◌, ◌≤◌, length, true}
use Rattle.cli_orders.specs.FaultLines.{GetsFault, NoneStartsBetween, starts_line}
use Rattle.cli_orders.proofs.fault_line.find_line.Given as goal

-- the text gets its fault with the part, and `next` is the start of the second line of the part
abbrev pub invariant-loop-next : goal.invariant-loop-next
invariant-loop-next l = GetsFault l.text l.fault l.part.start l.part.end
    × ((l.part.start < length l.text → l.part.start < l.next) × (l.next ≤ length l.text)
    × ((l.next ≡ length l.text) ⊎ (starts_line l.text l.next ≡ true))
    × NoneStartsBetween l.text l.part.start l.next)

abbrev pub decreases-loop-next : goal.decreases-loop-next
decreases-loop-next l = l.part.end - l.part.start
