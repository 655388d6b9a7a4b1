-- The tests of stored tables, row by row.
use Rattle.std.specs.Prelude.{◌≡◌, ◌↔◌, ◌+◌, ◌<◌, ◌≤◌, ◌&&◌, ℕ, ℤ, Bool, true, false, List, None}
use Rattle.std.specs.Prelude.{IfSome, is_some, filter, find, length}
use Rattle.std.specs.List.{AllByRecursion}
use Rattle.std.specs.Ordering.{int_eq}
use Rattle.sqlite_trees.specs.Tree.{IsAscending}
use Rattle.vcard_text.specs.Cards.{uid_of}
use Rattle.book_model.specs.Bounds.{Bounds}
use Rattle.book_model.specs.BookNames.{is_legal_name}
use Rattle.book_model.specs.Counting.{total_changes, arrived_cards, departed_cards}
use Rattle.book_model.specs.Importing.{is_legal_key}
use Rattle.store_tables.specs.Books.{BookRow, has_id}
use Rattle.store_tables.specs.Imports.{ImportRow}
use Rattle.store_tables.specs.Keeps.{KeepRow}
use Rattle.store_tables.specs.Members.{MemberRow, is_in_book, is_removed_above}
use Rattle.store_rows.specs.SoundTables.{AreSoundRows, AreWellFormed}
use Rattle.store_rows.specs.TableBooks.{row_counts, keep_of_book}
use Rattle.store_rows.specs.TableRows.{TableRows}
use Rattle.store_rows.specs.Values.{natural, text_card}

-- ---- a book

-- a live member of the book
abbrev pub is_live_in : ℤ → MemberRow → Bool
is_live_in book m = is_in_book book m && is_some m.card

-- the id is from 1 to the number of books
pub record IsIdUpTo (books : ℕ) (id : ℕ) : Type 0 where
  pub first : 1 ≤ id
  pub last : id ≤ books

-- the counts add up to the number, which is within the limit, and the horizon is at most the number
pub record HasValidNumbers (limits : Bounds) (b : BookRow) : Type 0 where
  pub counted_once : natural b.numbers.number ≡ total_changes (row_counts b.numbers)
  pub within_limit : natural b.numbers.number ≤ limits.changes_max
  pub horizon_known : natural b.numbers.horizon ≤ natural b.numbers.number

-- The keep is at least 1 and no less than the number of tombstones, and the live members are as
-- many as were added minus those that left.
pub record AgreesWithMembers (members : List MemberRow) (keeps : List KeepRow) (b : BookRow)
    : Type 0 where
  pub keep_least : 1 ≤ keep_of_book b.id keeps
  pub within_keep : length (filter (is_removed_above b.id b.numbers.horizon) members)
      ≤ keep_of_book b.id keeps
  pub cards_counted : length (filter (is_live_in b.id) members)
      + departed_cards (row_counts b.numbers)
      ≡ arrived_cards (row_counts b.numbers)

-- The book passes its tests, given the number of books and the members and keeps of all books.
pub record IsCheckedBook (limits : Bounds) (books : ℕ) (members : List MemberRow)
    (keeps : List KeepRow) (b : BookRow) : Type 0 where
  pub legal : is_legal_name b.name ≡ true
  pub numbered : IsIdUpTo books (natural b.id)
  pub bounds : HasValidNumbers limits b
  pub agrees : AgreesWithMembers members keeps b

abbrev pub AreCheckedBooks : Bounds → List MemberRow → List KeepRow → List BookRow → Type 0
AreCheckedBooks limits members keeps books =
    AllByRecursion (IsCheckedBook limits (length books) members keeps) books

-- ---- a member and an import of a book

-- The member was written by one of the book's changes. A live member's card has its UID, and a
-- tombstone is above the horizon.
pub record IsCheckedMember (m : MemberRow) (b : BookRow) : Type 0 where
  pub first : 1 ≤ natural m.changed
  pub known : natural m.changed ≤ natural b.numbers.number
  pub own_card : IfSome m.card (λ text. uid_of (text_card text) ≡ m.uid)
  pub remembered : m.card ≡ None → natural b.numbers.horizon < natural m.changed

-- the import has a legal key, and its number is at most the book's
pub record IsCheckedImport (i : ImportRow) (b : BookRow) : Type 0 where
  pub legal : is_legal_key i.key ≡ true
  pub known : natural i.number ≤ natural b.numbers.number

-- the property holds of the book `id`, if it is listed
abbrev pub IfBook : List BookRow → ℤ → (BookRow → Type 0) → Type 0
IfBook books id Then = IfSome (find (has_id id) books) Then

-- the member was written by this change of the book
abbrev pub is_written_by : ℤ → ℤ → MemberRow → Bool
is_written_by book number m = int_eq m.book book && int_eq m.changed number

-- no two members of a book were written by the same change
abbrev pub HaveDistinctChanges : List MemberRow → Type 0
HaveDistinctChanges = IsAscending (λ a b. is_written_by a.book a.changed b ≡ false)

-- ---- all rows

-- The rows pass all tests that are made row by row.
pub record PassRowChecks (limits : Bounds) (rows : TableRows) : Type 0 where
  pub few : length rows.books ≤ limits.books_max
  pub books : AreCheckedBooks limits rows.members rows.keeps rows.books
  pub members : AllByRecursion (λ m. IfBook rows.books m.book (IsCheckedMember m)) rows.members
  pub apart : HaveDistinctChanges rows.members
  pub imports : AllByRecursion (λ i. IfBook rows.books i.book (IsCheckedImport i)) rows.imports

-- Sound rows represent well-formed books exactly if they pass these tests.
abbrev pub CheckedAreWellFormed : Type 0
CheckedAreWellFormed = (limits : Bounds) (rows : TableRows) → AreSoundRows rows →
    PassRowChecks limits rows ↔ AreWellFormed limits rows
