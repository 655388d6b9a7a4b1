use Rattle.std.proofs.Common.{◌≡◌, take}
use Rattle.base_types.proofs.items.Items.try_copy.Given as goal

-- the items so far are copied
abbrev pub invariant-loop-item : goal.invariant-loop-item
invariant-loop-item g l = l.inner.items ≡ take l.item-index l.self
