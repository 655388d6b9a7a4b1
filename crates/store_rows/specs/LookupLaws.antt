-- Laws of look-ups: a look-up by key in a table is a look-up in the books.
use Rattle.std.specs.Prelude.{◌≡◌, ℕ, List, [], filter, Option, Some, None, Ok, Err}
use Rattle.std.specs.FinMap as finite
use Rattle.sqlite.specs.declared.error.Error.TheVariants.{QueryReturnedNoRows}
use Rattle.sqlite.specs.Order.{Row}
use Rattle.sqlite_rules.specs.Lists.{Has}
use Rattle.book_model.specs.declared.answers.ImportTally.{ImportTally}
use Rattle.book_model.specs.declared.answers.Stored.{Stored}
use Rattle.book_model.specs.Books.{live_at}
use Rattle.store_tables.specs.QueryResults.{FindsRow}
use Rattle.store_tables.specs.Books.{BookRow, has_name, numbers_shown}
use Rattle.store_tables.specs.Members.{has_uid, number_card_shown}
use Rattle.store_tables.specs.Imports.{has_key, import_shown}
use Rattle.store_tables.specs.Keeps.{is_keep_of, keep_shown}
use Rattle.store_rows.specs.TableRows.{TableRows}
use Rattle.store_rows.specs.TableBooks.{HeaderRow, line_row, row_book, books_of}
use Rattle.store_rows.specs.SoundTables.{AreSoundRows}
use Rattle.store_rows.specs.ShownRows.{ShowsHeader, ShowsLive, ShowsTally, ShowsNumber}

-- ---- the book with a name

-- the row with the name has this header, and its book is the book with the name
pub record IsBookNamed (rows : TableRows) (name : List ℕ) (header : HeaderRow) : Type 0 where
  pub there : Has rows.books (line_row name header)
  pub book : finite.get (books_of rows) name ≡ Some (row_book rows (line_row name header))

abbrev pub BooksAreFound : Type 0
BooksAreFound = (rows : TableRows) (name : List ℕ) (row : Row) (header : HeaderRow) →
    AreSoundRows rows → FindsRow (has_name name) numbers_shown rows.books (Ok row) →
    ShowsHeader row header → IsBookNamed rows name header

-- no book has the name, neither in the table nor in the books
pub record IsNameFree (rows : TableRows) (name : List ℕ) : Type 0 where
  pub none : filter (has_name name) rows.books ≡ []
  pub book : finite.get (books_of rows) name ≡ None

abbrev pub BooksAreMissing : Type 0
BooksAreMissing = (rows : TableRows) (name : List ℕ) →
    FindsRow (has_name name) numbers_shown rows.books (Err QueryReturnedNoRows) →
    IsNameFree rows name

-- ---- the live card of a UID

abbrev pub MembersAreFound : Type 0
MembersAreFound = (rows : TableRows) (b : BookRow) (uid : List ℕ) (row : Row)
    (live : Option Stored) → AreSoundRows rows →
    FindsRow (has_uid b.id uid) number_card_shown rows.members (Ok row) → ShowsLive row live →
    live_at (row_book rows b) uid ≡ live

abbrev pub MembersAreMissing : Type 0
MembersAreMissing = (rows : TableRows) (b : BookRow) (uid : List ℕ) →
    FindsRow (has_uid b.id uid) number_card_shown rows.members (Err QueryReturnedNoRows) →
    live_at (row_book rows b) uid ≡ None

-- ---- the import with a key

abbrev pub ImportsAreFound : Type 0
ImportsAreFound = (rows : TableRows) (b : BookRow) (key : List ℕ) (row : Row)
    (tally : ImportTally) → AreSoundRows rows →
    FindsRow (has_key b.id key) import_shown rows.imports (Ok row) → ShowsTally row tally →
    finite.get (row_book rows b).imports key ≡ Some tally

-- no import has the key, neither in the table nor in the book
pub record HasNoImport (rows : TableRows) (b : BookRow) (key : List ℕ) : Type 0 where
  pub none : filter (has_key b.id key) rows.imports ≡ []
  pub tally : finite.get (row_book rows b).imports key ≡ None

abbrev pub ImportsAreMissing : Type 0
ImportsAreMissing = (rows : TableRows) (b : BookRow) (key : List ℕ) →
    FindsRow (has_key b.id key) import_shown rows.imports (Err QueryReturnedNoRows) →
    HasNoImport rows b key

-- ---- the keep of a book

abbrev pub KeepsAreFound : Type 0
KeepsAreFound = (rows : TableRows) (b : BookRow) (row : Row) (keep : ℕ) → AreSoundRows rows →
    FindsRow (is_keep_of b.id) keep_shown rows.keeps (Ok row) → ShowsNumber row keep →
    (row_book rows b).keep ≡ keep
