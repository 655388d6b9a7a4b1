-- The invariants of every store's rows, after any calls. Opening a stored book checks the same
-- invariants.
use Rattle.std.specs.Prelude.{ℕ, ◌≡◌, ◌<◌, ◌≤◌, ◌+◌, true, List, Some, None}
use Rattle.std.specs.FinMap as finite
use Rattle.vcard_lines.specs.declared.line.Line.{Line}
use Rattle.vcard_text.specs.Cards.{uid_of}
use Rattle.book_model.specs.declared.answers.ImportTally.{ImportTally}
use Rattle.book_model.specs.declared.row.Row.{Row}
use Rattle.book_model.specs.Bounds.{Bounds}
use Rattle.book_model.specs.BookNames.{is_legal_name}
use Rattle.book_model.specs.Books.{Book, Books}
use Rattle.book_model.specs.Counting.{total_changes, arrived_cards, departed_cards}
use Rattle.book_model.specs.Importing.{is_legal_key}
use Rattle.book_model.specs.BookQueries.{live_cards, tombstone_count}

-- The row has the number of one of the book's changes. The card of a live member has the member's
-- UID, and a row without a card is a tombstone: the member was removed after the horizon.
pub record IsWellFormedRow (book : Book) (uid : List ℕ) (row : Row) : Type 0 where
  pub first : 1 ≤ row.changed
  pub known : row.changed ≤ book.number
  pub own_card : (card : List Line) → row.card ≡ Some card → uid_of card ≡ uid
  pub remembered : row.card ≡ None → book.horizon < row.changed

-- a kept import has a legal key, and its number isn't above the book's
pub record IsWellFormedImport (book : Book) (key : List ℕ) (tally : ImportTally) : Type 0 where
  pub legal : is_legal_key key ≡ true
  pub known : tally.number ≤ book.number

pub record IsWellFormedBook (limits : Bounds) (book : Book) : Type 0 where
  -- the counts add up to the book's number
  pub counted_once : book.number ≡ total_changes book.counts
  pub within_limit : book.number ≤ limits.changes_max
  pub horizon_known : book.horizon ≤ book.number
  -- the tombstone limit is at least 1, and the book has no more tombstones than the limit
  pub keep_least : 1 ≤ book.keep
  pub within_keep : tombstone_count book ≤ book.keep
  -- the live cards are the arrived cards less the departed ones
  pub cards_counted : finite.len (live_cards book) + departed_cards book.counts
      ≡ arrived_cards book.counts
  pub rows : (uid : List ℕ) (row : Row) → finite.get book.members uid ≡ Some row
      → IsWellFormedRow book uid row
  -- no two rows have the same number
  pub rows_apart : (a b : List ℕ) (x y : Row) → finite.get book.members a ≡ Some x
      → finite.get book.members b ≡ Some y → x.changed ≡ y.changed → a ≡ b
  pub imports : (key : List ℕ) (tally : ImportTally) → finite.get book.imports key ≡ Some tally
      → IsWellFormedImport book key tally

-- The ids of n books are 1 to n: each is one of these, and no two books have the same.
pub record IsWellFormed (limits : Bounds) (books : Books) : Type 0 where
  pub within_limit : finite.len books ≤ limits.books_max
  pub legal_names : (name : List ℕ) (book : Book) → finite.get books name ≡ Some book
      → is_legal_name name ≡ true
  pub first_id : (name : List ℕ) (book : Book) → finite.get books name ≡ Some book → 1 ≤ book.id
  pub last_id : (name : List ℕ) (book : Book) → finite.get books name ≡ Some book
      → book.id ≤ finite.len books
  pub ids_apart : (a b : List ℕ) (x y : Book) → finite.get books a ≡ Some x
      → finite.get books b ≡ Some y → x.id ≡ y.id → a ≡ b
  pub each : (name : List ℕ) (book : Book) → finite.get books name ≡ Some book
      → IsWellFormedBook limits book
