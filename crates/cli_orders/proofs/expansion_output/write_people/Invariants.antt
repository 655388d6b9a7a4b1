use Rattle.std.proofs.Common.{◌≡◌, ◌++◌, take}
use Rattle.cli_orders.specs.OrderOutputs.{people_lines}
use Rattle.cli_orders.proofs.expansion_output.write_people.Given as goal

-- the lines so far are written
abbrev pub invariant-loop-uid : goal.invariant-loop-uid
invariant-loop-uid l = l.out.items ≡ l.fn.out.items ++ people_lines (take l.uid-index l.people)
