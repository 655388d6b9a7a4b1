use Rattle.std.proofs.Common.{◌≡◌, map, fold}
use Rattle.std.specs.FinMap as finite
use Rattle.std.specs.Map.Iter.{deref_pair}
use Rattle.base_types.proofs.TextMapLemmas.{octet_entry}
use Rattle.book_model.specs.BookQueries.{with_live}
use Rattle.sync_core.proofs.plain_book.PlainBook.live_cards.Given as goal

-- the live cards so far are in the map
abbrev pub invariant-loop-uid : goal.invariant-loop-uid
invariant-loop-uid l = l.cards ≡ fold with_live finite.empty
    (map octet_entry (map deref_pair l.yielded))
