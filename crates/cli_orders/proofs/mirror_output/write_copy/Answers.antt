use Rattle.std.proofs.Common.{◌≡◌, ◌++◌, map, flat_map, sym, ap, ◌∙◌, rules}
use Rattle.std.specs.Map.Iter.{deref_pair}
use Rattle.std.proofs.lemmas.Map.Iter.{iter_end}
use Rattle.base_types.proofs.TextMapLemmas.{octet_entry, entries-texts}
use Rattle.cli_orders.specs.OrderOutputs.{copy_line}
use Rattle.cli_orders.proofs.mirror_output.write_copy.Goals as goal

-- the iterator returned all cards of the map, in byte order of key
pub returns : goal.returns
returns c =
    let all : map deref_pair c.loop-uid.yielded ≡ c.args.copy.now.entries =
    search (rules, iter_end) in
    c.loop-uid.invariant
    ∙ ap (λ cards. c.args.out.now.items ++ flat_map (λ card. copy_line card.0 card.1.version) cards)
    (ap (map octet_entry) all ∙ sym (entries-texts c.args.copy.now
    c.iter-uid-items.ensures.ordered))
