use Rattle.std.proofs.Common.{◌≡◌, ◌++◌, take}
use Rattle.cli_orders.specs.RestoreOutputs.{made_lines}
use Rattle.cli_orders.proofs.restore_output.write_all_made.Given as goal

-- the lines so far are written
abbrev pub invariant-loop-name : goal.invariant-loop-name
invariant-loop-name l = l.out.items ≡ l.fn.out.items ++ made_lines (take l.name-index l.names)
