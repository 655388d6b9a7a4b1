use Rattle.cli_orders.specs.FaultLines.{NoneStartsBetween}
use Rattle.cli_orders.proofs.line_starts.next_start.Given as goal

-- no line starts at the places so far
abbrev pub invariant-loop-place : goal.invariant-loop-place
invariant-loop-place l = NoneStartsBetween l.text l.after l.place
