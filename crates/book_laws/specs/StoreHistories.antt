-- The histories of a store's books, and the rows that a store keeps of them.
use Rattle.std.specs.Prelude.{ℕ, ◌≡◌, ◌≤◌, Bool, not, ◌&&◌, nat_lt, List, length, map, filter}
use Rattle.std.specs.Prelude.{is_some, Some}
use Rattle.std.specs.FinMap as finite
use Rattle.base_types.specs.TextMaps.{text_cmp}
use Rattle.book_model.specs.declared.answers.ImportTally.{ImportTally}
use Rattle.book_model.specs.Bounds.{Bounds, IsInRange}
use Rattle.book_model.specs.Books.{Book, Books}
use Rattle.book_laws.specs.LogCounts.{counts_of_log}
use Rattle.book_laws.specs.EventLogs.{BookEvent, live, last_number, touched_uids}
use Rattle.book_laws.specs.ValidLogs.{IsValidLog}
use Rattle.book_laws.specs.LogRows.{rows_of_log}

-- The history of a book: its whole event log, and what it keeps beside it. `keep` is the most
-- tombstones that it keeps.
pub record BookHistory : Type 0 where
  pub id : ℕ
  pub log : List BookEvent
  pub horizon : ℕ
  pub keep : ℕ
  pub imports : finite.FinMap text_cmp ImportTally

abbrev pub BookHistories : Type 0
BookHistories = finite.FinMap text_cmp BookHistory

-- ---- tombstones

-- a tombstone: a member that was removed after the horizon
abbrev pub is_tombstone : BookHistory → List ℕ → Bool
is_tombstone history uid = not (is_some (finite.get (live history.log) uid))
    && nat_lt history.horizon (last_number history.log uid)

-- the tombstones of a book, in the order of their removals
abbrev pub tombstone_uids : BookHistory → List (List ℕ)
tombstone_uids history = filter (is_tombstone history) (touched_uids history.log)

-- ---- sound histories

-- The log is valid, the horizon is within it, the tombstone limit is at least 1, and there are no
-- more tombstones than the limit.
pub record IsSoundHistory (history : BookHistory) : Type 0 where
  pub valid_log : IsValidLog history.log
  pub within_log : history.horizon ≤ length history.log
  pub keep_least : 1 ≤ history.keep
  pub within_keep : length (tombstone_uids history) ≤ history.keep

-- each of these histories is sound
abbrev pub AreSoundHistories : BookHistories → Type 0
AreSoundHistories histories =
    (name : List ℕ) (history : BookHistory) → finite.get histories name ≡ Some history
    → IsSoundHistory history

-- ---- a store

-- the limits of a store, and the histories of its books
pub record StoreHistory : Type 0 where
  pub limits : Bounds
  pub books : BookHistories

-- the limits are in range, and the histories are sound
pub record IsSoundStoreHistory (store : StoreHistory) : Type 0 where
  pub limits : IsInRange store.limits
  pub books : AreSoundHistories store.books

-- ---- its rows

-- the rows that a store keeps of a book
abbrev pub book_of_history : BookHistory → Book
book_of_history history = record {
  id = history.id;
  number = length history.log;
  horizon = history.horizon;
  keep = history.keep;
  counts = counts_of_log history.log;
  members = rows_of_log history.log history.horizon;
  imports = history.imports;
}

-- and the rows of all books, under the same names
abbrev pub rows_of : BookHistories → Books
rows_of histories =
    finite.from_sorted
    (map (λ named. (named.0, book_of_history named.1)) (finite.entries histories))
