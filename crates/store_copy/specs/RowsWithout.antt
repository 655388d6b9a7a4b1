-- The rows of a store of which some books are left out.
use Rattle.std.specs.Prelude.{◌≡◌, ◌-◌, ◌<◌, ℕ, ℤ, pos, Bool, not, false, List, [], ◌∷◌, map, filter}
use Rattle.std.specs.Prelude.{true, ⊤}
use Rattle.std.specs.Prelude.{nat_lt, nat_eq, count_by}
use Rattle.std.specs.List.{AllByRecursion, list_any}
use Rattle.std.specs.Ordering.{int_eq}
use Rattle.sqlite.specs.declared.types.Value.TheVariants.{Int}
use Rattle.sqlite.specs.Effect.{Database}
use Rattle.sqlite.specs.Order.{Row, column}
use Rattle.store_tables.specs.Books.{BookRow, has_name}
use Rattle.store_rows.specs.SoundTables.{HoldsSoundRows}
use Rattle.store_rows.specs.TableBooks.{books_in}
use Rattle.store_rows.specs.TableRows.{TableRows}
use Rattle.store_rows.specs.Values.{natural}
use Rattle.store_check.specs.ListedRows.{AreListedRows}
use Rattle.store_check.specs.RowChecks.{decode_book, int_cell}
use Rattle.store_copy.specs.BooksWithout.{is_named, AreBooksWithout, HaveBooks, HaveNumbersBelow}
use Rattle.store_copy.specs.CopiedRows.{HasRows}
use Rattle.store_copy.specs.declared.reading.BookRows.{BookRows}
use Rattle.store_copy.specs.declared.reading.StoredRows.{StoredRows}

-- ---- ids

-- one of these ids
abbrev pub is_left_out : List ℤ → ℤ → Bool
is_left_out ids id = list_any (λ each. int_eq each id) ids

-- the id less as many of these ids as are smaller
abbrev pub id_after : List ℤ → ℤ → ℤ
id_after ids id = pos (natural id - count_by (λ each. nat_lt (natural each) (natural id)) ids)

-- the ids of the books with these names
abbrev pub named_ids : List (List ℕ) → List BookRow → List ℤ
named_ids names books = map (λ book. book.id) (filter (λ book. is_named names book.name) books)

-- ---- rows as table entries

-- the rows of the books that aren't left out, with the new ids of these books
abbrev pub rest : {X : Type 0} → (X → ℤ) → (ℤ → X → X) → List ℤ → List X → List X
rest id_of with_id ids rows = map (λ row. with_id (id_after ids (id_of row)) row)
    (filter (λ row. not (is_left_out ids (id_of row))) rows)

abbrev pub rows_without : List ℤ → TableRows → TableRows
rows_without ids rows = record {
  books = rest (λ row. row.id) (λ id row. record row { id = id }) ids rows.books;
  members = rest (λ row. row.book) (λ id row. record row { book = id }) ids rows.members;
  imports = rest (λ row. row.book) (λ id row. record row { book = id }) ids rows.imports;
  keeps = rest (λ row. row.book) (λ id row. record row { book = id }) ids rows.keeps;
}

-- ---- rows as they are listed

-- the ids of the books with these names, which are listed
abbrev pub ids_named : List (List ℕ) → StoredRows → List ℤ
ids_named names rows = named_ids names (map decode_book rows.others.books.items)

-- the rows of the books that aren't left out; the id of the book is in the column `at`
abbrev pub kept_rows : ℕ → List ℤ → List Row → List Row
kept_rows at ids rows = filter (λ row. not (is_left_out ids (int_cell at row))) rows

pub record LeavesOut (ids : List ℤ) (all kept : StoredRows) : Type 0 where
  pub books : kept.others.books.items ≡ kept_rows 0 ids all.others.books.items
  pub members : kept.members.items ≡ kept_rows 1 ids all.members.items
  pub imports : kept.others.imports.items ≡ kept_rows 1 ids all.others.imports.items
  pub keeps : kept.others.keeps.items ≡ kept_rows 0 ids all.others.keeps.items

-- the column `at` has the new id, and each other one of the first columns is the same
pub record HasNewId (at columns : ℕ) (ids : List ℤ) (found row : Row) : Type 0 where
  pub new_id : column found at ≡ Int (id_after ids (int_cell at row))
  pub others : (k : ℕ) → k < columns → nat_eq k at ≡ false → column found k ≡ column row k

-- each found row is the row at its place, with its new id
abbrev pub HaveNewIds : ℕ → ℕ → List ℤ → List Row → List Row → Type 0
HaveNewIds at columns ids [] [] = ⊤
HaveNewIds at columns ids [] (row ∷ rows) = ⊥
HaveNewIds at columns ids (found ∷ more) [] = ⊥
HaveNewIds at columns ids (found ∷ more) (row ∷ rows) =
    HasNewId at columns ids found row × HaveNewIds at columns ids more rows

-- the tables but that of the members have these rows with their new ids
pub record HaveNewBooks (ids : List ℤ) (found rows : BookRows) : Type 0 where
  pub books : HaveNewIds 0 11 ids found.books.items rows.books.items
  pub imports : HaveNewIds 1 7 ids found.imports.items rows.imports.items
  pub keeps : HaveNewIds 0 2 ids found.keeps.items rows.keeps.items

-- all rows of the four tables are these rows with their new ids
pub record HasNewRows (ids : List ℤ) (db : Database) (rows : StoredRows) : Type 0 where
  pub others : BookRows
  pub members : List Row
  pub listed : AreListedRows db others.books.items members others.imports.items others.keeps.items
  pub new_others : HaveNewBooks ids others rows.others
  pub new_members : HaveNewIds 1 5 ids members rows.members.items

-- ---- the law

-- A copy that has the rows but those of the books with these names, with their new ids, holds the
-- books but these.
abbrev pub CopiesHoldTheRest : Type 0
CopiesHoldTheRest = (names : List (List ℕ)) (first copy : Database) (all kept : StoredRows) →
    HasRows first all → LeavesOut (ids_named names all) all kept →
    HasNewRows (ids_named names all) copy kept → HoldsSoundRows first → HoldsSoundRows copy →
    AreBooksWithout names (books_in first.trees) (books_in copy.trees)

-- ---- what the listed rows say of the books

-- No book has so great a number, if no listed row has.
abbrev pub ListedNumbersAreBelow : Type 0
ListedNumbersAreBelow = (db : Database) (all : StoredRows) (bound : ℕ) →
    HasRows db all → HoldsSoundRows db →
    AllByRecursion (λ row. natural row.numbers.number < bound)
    (map decode_book all.others.books.items) →
    HaveNumbersBelow bound (books_in db.trees)

-- Each of the names is that of a book, if it is that of a listed row.
abbrev pub ListedNamesAreBooks : Type 0
ListedNamesAreBooks = (db : Database) (all : StoredRows) (names : List (List ℕ)) →
    HasRows db all → HoldsSoundRows db →
    AllByRecursion (λ name. list_any (has_name name) (map decode_book all.others.books.items) ≡ true)
    names →
    HaveBooks names (books_in db.trees)
