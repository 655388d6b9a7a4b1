use Rattle.std.proofs.Common.{◌≡◌, map, filter}
use Rattle.std.specs.Map.Iter.{deref_pair}
use Rattle.base_types.proofs.TextMapLemmas.{octet_entry}
use Rattle.book_model.specs.Pages.{MemberWithRow, is_due_row}
use Rattle.sync_core.proofs.plain_report.due_members.Given as goal

-- the due members so far are in the list
abbrev pub invariant-loop-uid : goal.invariant-loop-uid
invariant-loop-uid l = map deref_pair l.due.items ≡ filter (λ (m : MemberWithRow). is_due_row l.mark
    m.1) (map octet_entry (map deref_pair l.yielded))
