use Rattle.std.proofs.Common.{◌≡◌, map, string_bytes}
use Rattle.card_core.proofs.text_set.TextSet.into_items.Given as goal

-- the texts so far are those that the set has given
abbrev pub invariant-loop-text : goal.invariant-loop-text
invariant-loop-text l = l.items.items ≡ map string_bytes l.yielded
