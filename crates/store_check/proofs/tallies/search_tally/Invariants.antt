use Rattle.std.proofs.Common.{◌≡◌, drop, find}
use Rattle.store_check.specs.MemberTallies.{has_book}
use Rattle.store_check.proofs.tallies.search_tally.Given as goal

-- the remaining books decide
abbrev pub invariant-loop-place : goal.invariant-loop-place
invariant-loop-place l = find (has_book l.id) (drop l.place l.tallies) ≡ find (has_book l.id)
    l.tallies
