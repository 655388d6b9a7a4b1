use Rattle.std.proofs.Common.{◌≡◌, ◌≤◌, take}
use Rattle.cli_orders.specs.FaultLines.{line_feed_count}
use Rattle.cli_orders.proofs.line_starts.line_feed_count.Given as goal

-- the line feeds so far
abbrev pub invariant-loop-i : goal.invariant-loop-i
invariant-loop-i l = (l.count ≡ line_feed_count (take l.i l.octets)) × (l.count ≤ l.i)
