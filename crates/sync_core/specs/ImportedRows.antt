-- How a book in memory applies an import, and rolls it back.
use Rattle.std.specs.Prelude.{ℕ, ◌+◌, ◌-◌, ◌<◌, ◌≤◌, ◌^◌, List, [], ◌∷◌, Option, Some, None, min}
use Rattle.std.specs.Option.{option_map_or}
use Rattle.std.specs.FinMap as finite
use Rattle.base_types.specs.TextMaps.{text_cmp}
use Rattle.vcard_lines.specs.declared.line.Line.{Line}
use Rattle.vcard_text.specs.Cards.{uid_of}
use Rattle.book_model.specs.declared.counts.Counts.{Counts}
use Rattle.book_model.specs.declared.row.Row.{Row}
use Rattle.book_model.specs.Books.{Book, live_at}
use Rattle.book_model.specs.Counting.{arrived_cards, departed_cards}
use Rattle.book_model.specs.Importing.{import_reason, book_after_store}
use Rattle.sync_core.specs.declared.plain_book.importing.SavedRow.{SavedRow}

-- ---- applying an import

-- the book after one card of an import, unchanged if an equal card is live
abbrev pub with_imported : Book → List Line → Book
with_imported book card =
    option_map_or (book_after_store book card)
    (import_reason card (live_at book (uid_of card))) book

-- if the change raises the book's number, the new number is at most 2 ^ 63
abbrev pub NumberFits : Book → Book → Type 0
NumberFits before after = before.number < after.number → after.number ≤ 2 ^ 63

-- the number of live cards after `added` more, capped at the largest 64-bit number
abbrev pub capped_live_count : Counts → ℕ → ℕ
capped_live_count counts added =
    min (arrived_cards counts + added - departed_cards counts) (2 ^ 64 - 1)

-- ---- rolling it back

-- the rows with the earlier row of the UID restored
abbrev pub row_restored : finite.FinMap text_cmp Row → List ℕ → Option Row
    → finite.FinMap text_cmp Row
row_restored rows uid None = finite.remove rows uid
row_restored rows uid (Some row) =
    option_map_or (λ _. finite.insert rows uid row) (finite.get rows uid) rows

-- the rows with the earlier rows of all these UIDs restored, the last one first
abbrev pub rows_restored : List SavedRow → finite.FinMap text_cmp Row → finite.FinMap text_cmp Row
rows_restored [] rows = rows
rows_restored (before ∷ later) rows =
    row_restored (rows_restored later rows) before.uid.now before.row
