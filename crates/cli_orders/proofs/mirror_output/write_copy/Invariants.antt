use Rattle.std.proofs.Common.{◌≡◌, ◌++◌, map, flat_map}
use Rattle.std.specs.Map.Iter.{deref_pair}
use Rattle.base_types.proofs.TextMapLemmas.{octet_entry}
use Rattle.cli_orders.specs.OrderOutputs.{copy_line}
use Rattle.cli_orders.proofs.mirror_output.write_copy.Given as goal

-- the cards that the map's iterator returned so far are written
abbrev pub invariant-loop-uid : goal.invariant-loop-uid
invariant-loop-uid l = l.out.items ≡ l.fn.out.items
    ++ flat_map (λ card. copy_line card.0 card.1.version)
    (map octet_entry (map deref_pair l.yielded))
