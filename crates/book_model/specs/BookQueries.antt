-- The calls that only read, defined on rows.
use Rattle.std.specs.Prelude.{ℕ, Bool, not, ◌&&◌, nat_lt, List, [], ◌∷◌, map, flat_map, filter}
use Rattle.std.specs.Prelude.{length, is_some, Result, Ok, codes}
use Rattle.std.specs.Borrow.{Bor}
use Rattle.std.specs.Option.{option_map_or}
use Rattle.std.specs.FinMap as finite
use Rattle.base_types.specs.TextMaps.{text_cmp}
use Rattle.book_model.specs.declared.answers.BookLine.{BookLine}
use Rattle.book_model.specs.declared.answers.Stored.{Stored}
use Rattle.book_model.specs.declared.answers.Tally.{Tally}
use Rattle.book_model.specs.declared.counts.Counts.{Counts}
use Rattle.book_model.specs.declared.refusal.Refusal.{Refusal}
use Rattle.book_model.specs.declared.row.Row.{Row}
use Rattle.book_model.specs.Books.{Book, Books, book_named, live_at, stored_in_row, LiveCards}
use Rattle.book_model.specs.Counting.{live_count}
use Rattle.book_model.specs.CallOutcomes.{◌>>=◌}
use Rattle.book_model.specs.Books.{live_or_no_such_card}

-- ---- lines of books

abbrev pub book_line_with : List ℕ → ℕ → ℕ → ℕ → BookLine
book_line_with name id number horizon =
    record { name = name; id = id; number = number; horizon = horizon }

abbrev pub book_line_in_rows : List ℕ × Book → BookLine
book_line_in_rows named = book_line_with named.0 named.1.id named.1.number named.1.horizon

-- one line for each book, ordered by the octets of the names
abbrev pub book_lines : Books → List BookLine
book_lines books = map book_line_in_rows (finite.entries books)

abbrev pub book_line_step : Books → List ℕ → Result BookLine Refusal
book_line_step books name = do
  book ← book_named books name
  Ok (book_line_in_rows (name, book))

-- ---- cards

abbrev pub get_step : Books → List ℕ → List ℕ → Result Stored Refusal
get_step books name uid = do
  book ← book_named books name
  live_or_no_such_card (live_at book uid)

-- the card of a member under its UID, if it is live
abbrev pub live_card_entry : List ℕ × Row → List (List ℕ × Stored)
live_card_entry member =
    option_map_or (λ stored. (member.0, stored) ∷ []) (stored_in_row member.1) []

-- all live cards of a book by UID
abbrev pub live_cards : Book → LiveCards
live_cards book = finite.from_entries (flat_map live_card_entry (finite.entries book.members))

-- the cards with a member's card added, if it is live: the step of loops that collect live cards
abbrev pub with_live : LiveCards → List ℕ × Row → LiveCards
with_live cards member =
    option_map_or (λ stored. finite.insert cards member.0 stored) (stored_in_row member.1) cards

abbrev pub cards_step : Books → List ℕ → Result LiveCards Refusal
cards_step books name = do
  book ← book_named books name
  Ok (live_cards book)

-- ---- tallies

abbrev pub tally_with : ℕ → ℕ → ℕ → Counts → ℕ → Tally
tally_with number horizon cards counts remembered = record {
  number = number;
  horizon = horizon;
  cards = cards;
  created = counts.created;
  edited = counts.edited;
  imported = counts.imported;
  import_edited = counts.import_edited;
  moved_in = counts.moved_in;
  deleted = counts.deleted;
  moved_out = counts.moved_out;
  remembered = remembered;
}

-- the eleven numbers of a tally under their names, in the order of the octets of the names
abbrev pub tally_numbers : Tally → List (List ℕ × ℕ)
tally_numbers tally =
    (codes "cards", tally.cards)
    ∷ (codes "created", tally.created)
    ∷ (codes "deleted", tally.deleted)
    ∷ (codes "edited", tally.edited)
    ∷ (codes "horizon", tally.horizon)
    ∷ (codes "import_edited", tally.import_edited)
    ∷ (codes "imported", tally.imported)
    ∷ (codes "moved_in", tally.moved_in)
    ∷ (codes "moved_out", tally.moved_out)
    ∷ (codes "number", tally.number)
    ∷ (codes "remembered", tally.remembered)
    ∷ []

-- a row of a name and a number, with the name read from its reference
abbrev pub named_number : Bor (List ℕ) × ℕ → List ℕ × ℕ
named_number row = (row.0.now, row.1)

-- a tombstone: the row of a member that was removed after the horizon
abbrev pub is_tombstone_after : ℕ → Row → Bool
is_tombstone_after horizon row = not (is_some row.card) && nat_lt horizon row.changed

-- how many members have such a row
abbrev pub tombstone_count_after : finite.FinMap text_cmp Row → ℕ → ℕ
tombstone_count_after members horizon =
    length (filter (λ member. is_tombstone_after horizon member.1) (finite.entries members))

-- the number of a book's tombstones
abbrev pub tombstone_count : Book → ℕ
tombstone_count book = tombstone_count_after book.members book.horizon

abbrev pub book_tally : Book → Tally
book_tally book =
    tally_with book.number book.horizon (live_count book.counts) book.counts (tombstone_count book)

abbrev pub tally_step : Books → List ℕ → Result Tally Refusal
tally_step books name = do
  book ← book_named books name
  Ok (book_tally book)

-- ---- keeps

-- the most tombstones that a book keeps, asked by name
abbrev pub keep_step : Books → List ℕ → Result ℕ Refusal
keep_step books name = do
  book ← book_named books name
  Ok book.keep
