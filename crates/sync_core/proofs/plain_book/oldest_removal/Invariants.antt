use Rattle.std.proofs.Common.{◌≡◌, map, filter}
use Rattle.std.specs.Map.Iter.{deref_pair}
use Rattle.base_types.proofs.TextMapLemmas.{octet_entry}
use Rattle.book_model.specs.BookChanges.{least}
use Rattle.book_model.specs.Pages.{MemberWithRow}
use Rattle.book_model.specs.BookQueries.{is_tombstone_after}
use Rattle.sync_core.proofs.plain_book.oldest_removal.Given as goal

-- the least number of the removals so far
abbrev pub invariant-loop-uid : goal.invariant-loop-uid
invariant-loop-uid l = l.first ≡ least
    (map (λ m. m.1.changed) (filter (λ (m : MemberWithRow). is_tombstone_after l.horizon m.1)
    (map octet_entry (map deref_pair l.yielded))))
