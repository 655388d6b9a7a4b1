use Rattle.std.proofs.Common.{◌≡◌, ◌++◌, take}
use Rattle.cli_orders.specs.TryOutputs.{entries_lines}
use Rattle.cli_orders.proofs.try_output.write_entries.Given as goal

-- the entries so far are written
abbrev pub invariant-loop-entry : goal.invariant-loop-entry
invariant-loop-entry l = l.out.items ≡ l.fn.out.items
    ++ entries_lines (take l.entry-index l.entries)
