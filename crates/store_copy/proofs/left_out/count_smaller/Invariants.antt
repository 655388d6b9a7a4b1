use Rattle.std.proofs.Common.{◌≡◌, ◌≤◌, take, count_by, nat_lt}
use Rattle.store_rows.specs.Values.{natural}
use Rattle.store_copy.proofs.left_out.count_smaller.Given as goal

-- how many so far are smaller
abbrev pub invariant-loop-i : goal.invariant-loop-i
invariant-loop-i l = (l.count ≡ count_by (λ each. nat_lt (natural each) (natural l.id))
    (take l.i l.left)) × (l.count ≤ l.i)
