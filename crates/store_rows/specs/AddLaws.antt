-- Laws of inserted rows: a new book with its keep, and the result of an import.
use Rattle.std.specs.Prelude.{◌≡◌, ℕ, ℤ, pos, List, [], filter}
use Rattle.std.specs.FinMap as finite
use Rattle.sqlite.specs.Effect.{Database}
use Rattle.sqlite_rules.specs.Lists.{Has}
use Rattle.book_model.specs.declared.answers.ImportTally.{ImportTally}
use Rattle.book_model.specs.Books.{fresh_book}
use Rattle.book_model.specs.Importing.{book_with_kept_import}
use Rattle.store_tables.specs.QueryResults.{AddsRow}
use Rattle.store_tables.specs.Books.{BookRow, HoldBooks, has_name, blank_book as new_book}
use Rattle.store_tables.specs.Imports.{ImportRow, HoldImports, new_import_row, has_key}
use Rattle.store_tables.specs.Keeps.{HoldKeeps, keep_row_of}
use Rattle.store_rows.specs.ChangeLaws.{WritesWithin}
use Rattle.store_rows.specs.SoundTables.{AreSoundRows, IsReadableImport}
use Rattle.store_rows.specs.TableBooks.{HeaderRow, line_row, row_book, books_of}
use Rattle.store_rows.specs.TableRows.{TableRows, HoldsRows, WritesTable, new_book_rows, keep_rows}
use Rattle.store_rows.specs.TableRows.{import_rows}
use Rattle.store_rows.specs.Values.{IsNatural}

-- ---- a new book

-- the database holds the rows and the new book, and they are sound
pub record HoldsNewBook (db : Database) (rows : TableRows) (id : ℤ) (name : List ℕ)
    : Type 0 where
  pub holds : HoldsRows db (new_book_rows id name rows)
  pub sound : AreSoundRows (new_book_rows id name rows)

abbrev pub BooksAreAdded : Type 0
BooksAreAdded = (old new : Database) (rows : TableRows) (id : ℤ) (name : List ℕ) →
    HoldsRows old rows → AreSoundRows rows → IsNatural id →
    filter (has_name name) rows.books ≡ [] →
    AddsRow HoldBooks (λ b. b.id) (new_book id name) rows.books (new.trees 2) →
    WritesTable 2 old new → HoldsNewBook new rows id name

-- the database holds the rows and the book's keep, and they are sound
pub record HoldsKeep (db : Database) (rows : TableRows) (book keep : ℤ) : Type 0 where
  pub holds : HoldsRows db (keep_rows book keep rows)
  pub sound : AreSoundRows (keep_rows book keep rows)

abbrev pub KeepsAreAdded : Type 0
KeepsAreAdded = (old new : Database) (rows : TableRows) (b : BookRow) (keep : ℤ) →
    HoldsRows old rows → AreSoundRows rows → Has rows.books b → IsNatural keep →
    AddsRow HoldKeeps (λ k. k.book) (keep_row_of b.id keep) rows.keeps (new.trees 9) →
    WritesTable 9 old new → HoldsKeep new rows b.id keep

-- both together create an empty book with this keep and name; the others are unchanged
abbrev pub NewBooksAreEmpty : Type 0
NewBooksAreEmpty = (rows : TableRows) (id : ℕ) (name : List ℕ) (keep : ℕ) → AreSoundRows rows →
    AreSoundRows (new_book_rows (pos id) name rows) →
    books_of (keep_rows (pos id) (pos keep) (new_book_rows (pos id) name rows))
    ≡ finite.insert (books_of rows) name (fresh_book id keep)

-- ---- the result of an import

-- the database holds the rows and the import, which is a write within its book
pub record HoldsImport (db : Database) (rows : TableRows) (new : ImportRow) : Type 0 where
  pub holds : HoldsRows db (import_rows new rows)
  pub within : WritesWithin new.book rows (import_rows new rows)

abbrev pub ImportsAreAdded : Type 0
ImportsAreAdded = (old new : Database) (rows : TableRows) (b : BookRow) (row : ImportRow) →
    HoldsRows old rows → AreSoundRows rows → Has rows.books b → row.book ≡ b.id →
    IsReadableImport row →
    filter (has_key row.book row.key) rows.imports ≡ [] →
    AddsRow HoldImports (λ i. i.id) row rows.imports (new.trees 7) →
    WritesTable 7 old new → HoldsImport new rows row

-- the row of an import with this result
abbrev pub import_tally_row : ℤ → ℕ → List ℕ → ImportTally → ImportRow
import_tally_row id book key tally = new_import_row id (pos book) key (pos tally.added)
    (pos tally.edited) (pos tally.same) (pos tally.number)

-- the book has the result under the key
abbrev pub ImportsAreKept : Type 0
ImportsAreKept = (rows : TableRows) (name : List ℕ) (header : HeaderRow) (id : ℤ)
    (key : List ℕ) (tally : ImportTally) →
    row_book (import_rows (import_tally_row id header.id key tally) rows) (line_row name header)
    ≡ book_with_kept_import (row_book rows (line_row name header)) key tally
