use Rattle.std.proofs.Common.{◌≡◌, take}
use Rattle.base_types.proofs.items.Items.is_same.Given as goal

-- the items so far are the same
abbrev pub invariant-loop-i : goal.invariant-loop-i
invariant-loop-i g l = take l.i l.self ≡ take l.i l.other-inside.inner.items
