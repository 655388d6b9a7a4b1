use Rattle.std.proofs.Common.{◌≡◌, ◌+◌, ◌≤◌, map, length, filter}
use Rattle.std.specs.BTreeMap.{btree_map_len}
use Rattle.std.specs.Map.Iter.{deref_pair}
use Rattle.base_types.proofs.TextMapLemmas.{octet_entry}
use Rattle.book_model.specs.Pages.{MemberWithRow}
use Rattle.book_model.specs.BookQueries.{is_tombstone_after}
use Rattle.sync_core.proofs.plain_book.count_removed.Given as goal

-- those so far are counted, and they are rows of the map
abbrev pub invariant-loop-uid : goal.invariant-loop-uid
invariant-loop-uid l = record {
  so_far : l.count ≡ length (filter (λ (m : MemberWithRow). is_tombstone_after l.horizon m.1)
      (map octet_entry (map deref_pair l.yielded)));
  fits : l.count + length l._uid-iterator ≤ btree_map_len l.rows;
}
