-- Rows that a call can change without a fault of the store.
use Rattle.std.specs.Prelude.{◌≡◌, ◌<◌, ◌≤◌, ◌^◌, ℕ, true, List, Some, IsTrue, Result, length}
use Rattle.std.specs.FinMap as finite
use Rattle.std.specs.List.{AllByRecursion, list_any}
use Rattle.sqlite.specs.State.{State, HasCleanDisk}
use Rattle.sqlite.specs.Tree.{Trees}
use Rattle.sqlite_rules.specs.Lists.{Has}
use Rattle.book_model.specs.declared.denied.Denied.{Denied}
use Rattle.book_model.specs.declared.row.Row.{Row}
use Rattle.book_model.specs.Books.{Book}
use Rattle.store_tables.specs.Acceptance.{HasFreeIds, IsShort}
use Rattle.store_tables.specs.Tables.{ObeyTables}
use Rattle.store_tables.specs.Keeps.{is_keep_of}
use Rattle.store_rows.specs.SoundTables.{IsReadableKeep}
use Rattle.store_rows.specs.TableBooks.{HeaderRow, line_row, row_book}
use Rattle.store_rows.specs.TableRows.{TableRows, HoldsRows}
use Rattle.store_rows.specs.Values.{natural}
use Rattle.store_lookups.specs.StoreFaults.{AreFaultless, HasOutsideCauseOfFault}

-- ---- rows that can be changed

-- no member of the book has a number above the book's
abbrev pub KnowsMembers : Book → Type 0
KnowsMembers book = (uid : List ℕ) (row : Row) → finite.get book.members uid ≡ Some row →
    row.changed ≤ book.number

-- No row makes a call that reads or writes fail. The ids of n books are at most n, and each book
-- has a keep. The names and the UIDs are short, so that a row with one of them can be stored.
pub record AcceptChanges (rows : TableRows) : Type 0 where
  pub faultless : AreFaultless rows
  pub short_names : AllByRecursion (λ b. IsShort b.name) rows.books
  pub last_id : AllByRecursion (λ b. natural b.id ≤ length rows.books) rows.books
  pub few_books : length rows.books < 9223372036854775807
  pub short_uids : AllByRecursion (λ m. IsShort m.uid) rows.members
  pub known : AllByRecursion (λ b. KnowsMembers (row_book rows b)) rows.books
  pub keeps : AllByRecursion IsReadableKeep rows.keeps
  pub kept : AllByRecursion (λ b. list_any (is_keep_of b.id) rows.keeps ≡ true) rows.books

-- SQLite has ids for 2^62 new members, more than any call adds, and for a new import.
pub record HaveFreeIds (trees : Trees) : Type 0 where
  pub members : HasFreeIds (2 ^ 62) (trees 4)
  pub imports : HasFreeIds 1 (trees 7)

-- ---- faults

-- Over rows that can be changed, a fault of the store comes only from an outside cause.
abbrev pub ChangeFaultsFromOutside : {A : Type 0} → State → State → Result A Denied → Type 0
ChangeFaultsFromOutside old new result = (rows : TableRows) → HasCleanDisk new →
    HoldsRows old.now rows → AcceptChanges rows → HaveFreeIds old.now.trees →
    HasOutsideCauseOfFault old new result

-- the same in one book, of which the rows have the row with this header
abbrev pub ChangeFaultsFromOutsideInBook :
    {A : Type 0} → State → State → HeaderRow → Result A Denied → Type 0
ChangeFaultsFromOutsideInBook old new header result = (rows : TableRows) (name : List ℕ) →
    HasCleanDisk new → HoldsRows old.now rows → AcceptChanges rows → HaveFreeIds old.now.trees →
    Has rows.books (line_row name header) → HasOutsideCauseOfFault old new result

-- Inside a transaction over rows that obey the constraints of the declared tables, a fault of the
-- store comes only from an outside cause.
abbrev pub WriteFaultsFromOutside : {A : Type 0} → State → State → Result A Denied → Type 0
WriteFaultsFromOutside old new result = HasCleanDisk new → IsTrue old.in_transaction →
    ObeyTables old.now.trees → HasOutsideCauseOfFault old new result
