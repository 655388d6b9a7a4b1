-- Laws of removed members: how many are remembered, and the effect of forgetting some.
use Rattle.std.specs.Prelude.{◌≡◌, ◌≤◌, ◌+◌, ℕ, pos, min, nat_le, if◌then◌else◌, List, [], ◌∷◌}
use Rattle.std.specs.Prelude.{filter, length, Some, None, Ok, Err}
use Rattle.std.specs.Option.{option_map_or}
use Rattle.sqlite.specs.declared.error.Error.TheVariants.{QueryReturnedNoRows}
use Rattle.sqlite.specs.Effect.{Database}
use Rattle.sqlite.specs.Order.{Row}
use Rattle.book_model.specs.declared.answers.Stored.{Stored}
use Rattle.book_model.specs.declared.change.Change.TheVariants.{TakesAway}
use Rattle.book_model.specs.declared.change.RemovalReason.{RemovalReason}
use Rattle.book_model.specs.Books.{Book, live_at}
use Rattle.book_model.specs.BookChanges.{book_with_row, oldest_tombstone, book_after_drop}
use Rattle.book_model.specs.BookChanges.{forced_horizon}
use Rattle.book_model.specs.Forgetting.{dropped_row_count, book_after_forget}
use Rattle.book_model.specs.BookQueries.{tombstone_count}
use Rattle.store_tables.specs.QueryResults.{FindsFirstRow, count_value}
use Rattle.store_tables.specs.Books.{BookRow}
use Rattle.store_tables.specs.Members.{HoldMembers, by_changed, number_shown, is_removed_above}
use Rattle.store_tables.specs.Members.{is_removed_up_to, without_removed}
use Rattle.store_rows.specs.ChangeLaws.{WritesWithin}
use Rattle.store_rows.specs.ShownRows.{ShowsNumber, ShowsCount}
use Rattle.store_rows.specs.SoundTables.{AreSoundRows}
use Rattle.store_rows.specs.TableBooks.{HeaderRow, line_row, row_book}
use Rattle.store_rows.specs.TableRows.{TableRows, HoldsRows, WritesTable, forgotten_rows}

-- ---- remembered removals

-- the count of removed members above the horizon is the number that the book remembers
abbrev pub CountsAreRemembered : Type 0
CountsAreRemembered = (rows : TableRows) (name : List ℕ) (header : HeaderRow) (row : Row)
    (n : ℕ) → AreSoundRows rows →
    row ≡ count_value (length (filter (is_removed_above (pos header.id) (pos header.horizon))
    rows.members)) ∷ [] →
    ShowsCount row n → tombstone_count (row_book rows (line_row name header)) ≡ n

-- the first removed member above the horizon is the oldest remembered removal
abbrev pub FirstIsFirstRemoval : Type 0
FirstIsFirstRemoval = (rows : TableRows) (name : List ℕ) (header : HeaderRow) (row : Row)
    (n : ℕ) → AreSoundRows rows →
    FindsFirstRow by_changed number_shown
    (filter (is_removed_above (pos header.id) (pos header.horizon)) rows.members) (Ok row) →
    ShowsNumber row n → oldest_tombstone (row_book rows (line_row name header)) ≡ Some n

-- if there is no such row, the book remembers none
abbrev pub NoneIsNoRemoval : Type 0
NoneIsNoRemoval = (rows : TableRows) (name : List ℕ) (header : HeaderRow) → AreSoundRows rows →
    FindsFirstRow by_changed number_shown
    (filter (is_removed_above (pos header.id) (pos header.horizon)) rows.members)
    (Err QueryReturnedNoRows) →
    oldest_tombstone (row_book rows (line_row name header)) ≡ None

-- ---- forgetting

-- the database holds the rows without the forgotten ones, which is a write within the book
pub record HoldsForgotten (db : Database) (rows : TableRows) (b : BookRow) (upto : ℕ)
    : Type 0 where
  pub holds : HoldsRows db (forgotten_rows b.id (pos upto) rows)
  pub within : WritesWithin b.id rows (forgotten_rows b.id (pos upto) rows)

abbrev pub ForgettingIsHeld : Type 0
ForgettingIsHeld = (old new : Database) (rows : TableRows) (b : BookRow) (upto : ℕ) →
    HoldsRows old rows → AreSoundRows rows →
    HoldMembers (new.trees 4) (without_removed b.id (pos upto) rows.members) →
    WritesTable 4 old new → HoldsForgotten new rows b upto

-- the book with the new horizon, over the remaining rows, is the book after the forget
abbrev pub ForgettingForgets : Type 0
ForgettingForgets = (rows : TableRows) (name : List ℕ) (header : HeaderRow) (upto : ℕ) →
    AreSoundRows rows →
    row_book (forgotten_rows (pos header.id) (pos upto) rows)
    (line_row name (record header { horizon = upto }))
    ≡ book_after_forget (row_book rows (line_row name header)) upto

-- the number of deleted rows is the number of dropped members
abbrev pub DeletionsAreDropped : Type 0
DeletionsAreDropped = (rows : TableRows) (name : List ℕ) (header : HeaderRow) (upto : ℕ) →
    AreSoundRows rows →
    length (filter (is_removed_up_to (pos header.id) (pos upto)) rows.members)
    ≡ dropped_row_count (row_book rows (line_row name header)).members upto

-- a drop up to a number is a forget up to it
abbrev pub DropsForget : Type 0
DropsForget = (book : Book) (upto : ℕ) →
    book_after_drop book (Some upto) ≡ book_after_forget book upto

-- ---- the drop of a removal, known before it is written

-- the number of the oldest removal after one more removal
abbrev pub first_with_next : Book → ℕ
first_with_next book =
    option_map_or (min (book.number + 1)) (oldest_tombstone book) (book.number + 1)

-- one more is remembered; if these are more than the keep, the oldest one is dropped
pub record RemembersRemoval (before after : Book) (why : RemovalReason) : Type 0 where
  pub count : tombstone_count after ≡ tombstone_count before + 1
  pub first : oldest_tombstone after ≡ Some (first_with_next before)
  pub drop : forced_horizon (TakesAway why) after
      ≡ (if nat_le (tombstone_count before + 1) before.keep then None
      else Some (first_with_next before))

abbrev pub RemovalsAreRemembered : Type 0
RemovalsAreRemembered = (rows : TableRows) (name : List ℕ) (header : HeaderRow)
    (uid : List ℕ) (live : Stored) (why : RemovalReason) → AreSoundRows rows →
    live_at (row_book rows (line_row name header)) uid ≡ Some live →
    header.horizon ≤ header.number →
    RemembersRemoval (row_book rows (line_row name header))
    (book_with_row (row_book rows (line_row name header)) uid (TakesAway why)) why
