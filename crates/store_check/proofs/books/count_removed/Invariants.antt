use Rattle.std.proofs.Common.{◌≡◌, ◌≤◌, filter, length, map, take}
use Rattle.store_rows.specs.TableRows.{load_member}
use Rattle.store_tables.specs.Members.{is_removed_above}
use Rattle.store_check.proofs.books.count_removed.Given as goal

-- the rows so far are counted
abbrev pub invariant-loop-member : goal.invariant-loop-member
invariant-loop-member l = record {
  so_far : l.count ≡ length (filter (is_removed_above l.id l.horizon)
      (map load_member (take l.member-index l.members)));
  fits : l.count ≤ l.member-index;
}
