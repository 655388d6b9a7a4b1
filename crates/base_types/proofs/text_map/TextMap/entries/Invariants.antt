use Rattle.std.proofs.Common.{◌≡◌, map}
use Rattle.std.specs.Map.Iter.{deref_pair}
use Rattle.base_types.proofs.TextMapLemmas.{octet_entry}
use Rattle.base_types.proofs.text_map.TextMap.entries.Given as goal

-- the entries so far are those that the map has given
abbrev pub invariant-loop-key : goal.invariant-loop-key
invariant-loop-key g l = map deref_pair l.entries.items ≡ map octet_entry (map deref_pair l.yielded)
