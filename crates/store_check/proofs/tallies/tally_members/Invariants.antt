use Rattle.std.proofs.Common.{List, [], map, take}
use Rattle.std.specs.List.{AllByRecursion}
use Rattle.store_tables.specs.Books.{BookRow}
use Rattle.store_rows.specs.TableRows.{load_member}
use Rattle.store_check.specs.MemberTallies.{AreCounted, HaveDistinctIds, IsGoodMember}
use Rattle.store_check.proofs.tallies.tally_members.Given as goal

-- the members so far are good, and are counted
abbrev pub invariant-loop-member : goal.invariant-loop-member
invariant-loop-member l = (books : List BookRow) → HaveDistinctIds books
    → AreCounted [] books l.fn.tallies
    → AllByRecursion (IsGoodMember books) (take l.member-index l.members)
    × AreCounted (map load_member (take l.member-index l.members)) books l.tallies
