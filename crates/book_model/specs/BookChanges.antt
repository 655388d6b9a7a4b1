-- The effect of a change on a book's rows. A book keeps a limited number of tombstones, and refuses
-- tokens that need older ones (RFC 6578, section 3.2). The limit is this project's own.
use Rattle.std.specs.Prelude.{ℕ, ◌+◌, nat_le, min, List, [], ◌∷◌, map, filter, Option, Some, None}
use Rattle.std.specs.Prelude.{if◌then◌else◌}
use Rattle.std.specs.Option.{option_map_or}
use Rattle.std.specs.FinMap as finite
use Rattle.base_types.specs.TextMaps.{text_cmp}
use Rattle.vcard_lines.specs.declared.line.Line.{Line}
use Rattle.book_model.specs.declared.change.Change.{Change}
use Rattle.book_model.specs.declared.change.Change.TheVariants.{Stores, TakesAway}
use Rattle.book_model.specs.declared.row.Row.{Row}
use Rattle.book_model.specs.Books.{Book}
use Rattle.book_model.specs.Counting.{counts_after_change}
use Rattle.book_model.specs.Forgetting.{rows_after_forget}
use Rattle.book_model.specs.BookQueries.{is_tombstone_after, tombstone_count}

-- ---- the change itself

abbrev pub card_after : Change → Option (List Line)
card_after (Stores card why) = Some card
card_after (TakesAway why) = None

-- a change takes the book's next number, writes its member's row, and is counted by its reason
abbrev pub book_with_row : Book → List ℕ → Change → Book
book_with_row book uid change = record book {
  number = book.number + 1;
  counts = counts_after_change change book.counts;
  members = finite.insert book.members uid
      (record { changed = book.number + 1; card = card_after change });
}

-- ---- tombstones that the book drops by itself

-- the least of some numbers
abbrev pub least : List ℕ → Option ℕ
least [] = None
least (number ∷ numbers) = Some (option_map_or (min number) (least numbers) number)

-- the number of the oldest tombstone of the book
abbrev pub oldest_tombstone : Book → Option ℕ
oldest_tombstone book = least (map (λ member. member.1.changed)
    (filter (λ member. is_tombstone_after book.horizon member.1) (finite.entries book.members)))

-- The horizon that a change forces: a removal that leaves more tombstones than the book keeps drops
-- the oldest one. None where nothing is dropped.
abbrev pub forced_horizon : Change → Book → Option ℕ
forced_horizon (Stores card why) book = None
forced_horizon (TakesAway why) book =
    if nat_le (tombstone_count book) book.keep then None else oldest_tombstone book

abbrev pub horizon_after_drop : ℕ → Option ℕ → ℕ
horizon_after_drop horizon None = horizon
horizon_after_drop horizon (Some upto) = upto

abbrev pub rows_after_drop
    : finite.FinMap text_cmp Row → Option ℕ → finite.FinMap text_cmp Row
rows_after_drop members None = members
rows_after_drop members (Some upto) = rows_after_forget members upto

-- the book after forgetting up to this number, or unchanged
abbrev pub book_after_drop : Book → Option ℕ → Book
book_after_drop book drop = record book {
  horizon = horizon_after_drop book.horizon drop;
  members = rows_after_drop book.members drop;
}

-- ---- the change, and the drop that it forces

-- the book after a change of the UID's member
abbrev pub book_after_change : Book → List ℕ → Change → Book
book_after_change book uid change =
    book_after_drop (book_with_row book uid change)
    (forced_horizon change (book_with_row book uid change))
