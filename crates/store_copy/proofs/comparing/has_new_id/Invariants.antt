use Rattle.std.proofs.Common.{◌≡◌, ◌<◌, ℕ, false, nat_eq}
use Rattle.sqlite.specs.Order.{column}
use Rattle.store_copy.proofs.comparing.has_new_id.Given as goal

-- the columns so far are the same, but for that of the id
abbrev pub invariant-loop-k : goal.invariant-loop-k
invariant-loop-k l = (j : ℕ) → j < l.k → nat_eq j l.at ≡ false → column l.found j ≡ column l.row j
