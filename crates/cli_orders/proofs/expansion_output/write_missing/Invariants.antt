use Rattle.std.proofs.Common.{◌≡◌, ◌++◌, take}
use Rattle.cli_orders.specs.OrderOutputs.{missing_lines}
use Rattle.cli_orders.proofs.expansion_output.write_missing.Given as goal

-- the lines so far are written
abbrev pub invariant-loop-value : goal.invariant-loop-value
invariant-loop-value l = l.out.items ≡ l.fn.out.items ++ missing_lines (take l.value-index l.values)
