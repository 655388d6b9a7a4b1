use Rattle.std.proofs.Common.{◌≡◌, take, length}
use Rattle.store_copy.specs.RowsWithout.{HaveNewIds}
use Rattle.store_copy.proofs.comparing.have_new_ids.Given as goal

-- the rows so far have their new ids
abbrev pub invariant-loop-place : goal.invariant-loop-place
invariant-loop-place l = HaveNewIds l.at l.columns l.left (take l.place l.found)
    (take l.place l.rows) × (length l.found ≡ l.count) × (length l.rows ≡ l.count)
