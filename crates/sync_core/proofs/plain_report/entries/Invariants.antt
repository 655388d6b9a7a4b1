use Rattle.std.proofs.Common.{◌≡◌, take, map}
use Rattle.std.specs.Map.Iter.{deref_pair}
use Rattle.book_model.specs.Pages.{entry_of_row}
use Rattle.sync_core.proofs.plain_report.entries.Given as goal

abbrev pub invariant-loop-member : goal.invariant-loop-member
invariant-loop-member l = l.entries.items
    ≡ map entry_of_row (map deref_pair (take l.member-index l.members))
