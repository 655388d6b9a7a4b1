-- The rows of whole tables, as the statements return them, by column.
use Rattle.std.specs.Prelude.{◌≡◌, ◌≤◌, ℕ, ℤ, pos, List, find, length, map}
use Rattle.sqlite.specs.declared.types.Value.TheVariants.{Int, Text}
use Rattle.sqlite.specs.Values.{or_null}
use Rattle.std.specs.Option.{IsSomeAnd}
use Rattle.std.specs.List.{AllByRecursion}
use Rattle.sqlite.specs.Order.{Row, column}
use Rattle.sqlite_rules.specs.Edit.{id_in}
use Rattle.vcard_text.specs.Cards.{uid_of}
use Rattle.book_model.specs.Bounds.{Bounds}
use Rattle.store_tables.specs.Books.{BookRow, AreBooks, numbers, has_id}
use Rattle.store_tables.specs.Imports.{ImportRow, AreImports}
use Rattle.store_tables.specs.Keeps.{KeepRow, AreKeeps, keep_row_of}
use Rattle.store_tables.specs.Members.{MemberRow, AreMembers}
use Rattle.store_rows.specs.SoundTables.{AreWellFormed, HasBookId, IsReadableMember}
use Rattle.store_rows.specs.TableRows.{TableRows, load_member, load_import}
use Rattle.store_rows.specs.Values.{IsCanonical, natural, text_or_empty, text_or_none, text_card}
use Rattle.store_check.specs.BookChecks.{HaveDistinctChanges, AreCheckedBooks, IsCheckedMember}
use Rattle.store_check.specs.BookChecks.{IsCheckedImport}

-- ---- rows as table entries

-- the book of a row with the id, the name and the numbers
abbrev pub decode_book : Row → BookRow
decode_book r = record {
  id = id_in (column r 0);
  name = text_or_empty (column r 1);
  numbers = numbers (id_in (column r 2)) (id_in (column r 3)) (id_in (column r 4))
      (id_in (column r 5)) (id_in (column r 6)) (id_in (column r 7)) (id_in (column r 8))
      (id_in (column r 9)) (id_in (column r 10));
}

-- the keep of a row with the book and its keep
abbrev pub decode_keep : Row → KeepRow
decode_keep r = keep_row_of (id_in (column r 0)) (id_in (column r 1))

-- the entries of the four tables, from their rows in any order
abbrev pub decode_rows : List Row → List Row → List Row → List Row → TableRows
decode_rows books members imports keeps = record {
  books = map decode_book books;
  members = map load_member members;
  imports = map load_import imports;
  keeps = map decode_keep keeps;
}

-- ---- columns

-- the integer or the text in the column, or 0 or an empty text if it has none
abbrev pub int_cell : ℕ → Row → ℤ
int_cell at r = id_in (column r at)

abbrev pub text_cell : ℕ → Row → List ℕ
text_cell at r = text_or_empty (column r at)

-- the column has an integer, an integer that is not negative, a text, or a text or null
abbrev pub HasNumber : ℕ → Row → Type 0
HasNumber at r = column r at ≡ Int (int_cell at r)

abbrev pub HasNatural : ℕ → Row → Type 0
HasNatural at r = column r at ≡ Int (pos (natural (int_cell at r)))

abbrev pub HasText : ℕ → Row → Type 0
HasText at r = column r at ≡ Text (text_cell at r)

abbrev pub HasTextIfAny : ℕ → Row → Type 0
HasTextIfAny at r = column r at ≡ or_null Text (text_or_none (column r at))

-- ---- rows with the columns of their table

-- a book, whose id and numbers are not negative
pub record IsBookRow (r : Row) : Type 0 where
  pub id : HasNatural 0 r
  pub name : HasText 1 r
  pub number : HasNatural 2 r
  pub horizon : HasNatural 3 r
  pub created : HasNatural 4 r
  pub edited : HasNatural 5 r
  pub imported : HasNatural 6 r
  pub import_edited : HasNatural 7 r
  pub moved_in : HasNatural 8 r
  pub deleted : HasNatural 9 r
  pub moved_out : HasNatural 10 r

pub record IsMemberRow (r : Row) : Type 0 where
  pub id : HasNumber 0 r
  pub book : HasNumber 1 r
  pub uid : HasText 2 r
  pub changed : HasNatural 3 r
  pub card : HasTextIfAny 4 r

-- an import, with an answer whose numbers are not negative
pub record IsImportRow (r : Row) : Type 0 where
  pub id : HasNumber 0 r
  pub book : HasNumber 1 r
  pub key : HasText 2 r
  pub added : HasNatural 3 r
  pub edited : HasNatural 4 r
  pub same : HasNatural 5 r
  pub number : HasNatural 6 r

pub record IsKeepRow (r : Row) : Type 0 where
  pub book : HasNumber 0 r
  pub keep : HasNatural 1 r

-- ---- a card and a member

-- the text is the canonical text of a card that has the UID
pub record IsOwnCard (text uid : List ℕ) : Type 0 where
  pub canonical : IsCanonical text
  pub own : uid_of (text_card text) ≡ uid

-- the member is readable and passes its tests in the book
pub record IsValidMember (m : MemberRow) (b : BookRow) : Type 0 where
  pub readable : IsReadableMember m
  pub checked : IsCheckedMember m b

-- the book `id` is listed, and the property holds of it
abbrev pub IsBookAnd : List BookRow → ℤ → (BookRow → Type 0) → Type 0
IsBookAnd books id Then = IsSomeAnd (find (has_id id) books) Then

-- each member's book is listed, and the member is valid in it
abbrev pub AreValidMembers : List BookRow → List MemberRow → Type 0
AreValidMembers books = AllByRecursion (λ m. IsBookAnd books m.book (IsValidMember m))

-- each import's book is listed, and the import is valid in it
abbrev pub AreValidImports : List BookRow → List ImportRow → Type 0
AreValidImports books = AllByRecursion (λ i. IsBookAnd books i.book (IsCheckedImport i))

-- ---- keys of rows

-- the book of the row and the value in the column
abbrev pub book_and_number : ℕ → Row → ℤ × ℤ
book_and_number at r = (int_cell 1 r, int_cell at r)

abbrev pub book_and_text : ℕ → Row → ℤ × List ℕ
book_and_text at r = (int_cell 1 r, text_cell at r)

-- ---- whole tables

-- each row of the four tables has the columns of its table
pub record AreTableRows (books members imports keeps : List Row) : Type 0 where
  pub each_book : AllByRecursion IsBookRow books
  pub each_member : AllByRecursion IsMemberRow members
  pub each_import : AllByRecursion IsImportRow imports
  pub each_keep : AllByRecursion IsKeepRow keeps

-- the keys of each table are unique, and no change of a book wrote two members
pub record HaveUniqueKeys (rows : TableRows) : Type 0 where
  pub books : AreBooks rows.books
  pub members : AreMembers rows.members
  pub apart : HaveDistinctChanges rows.members
  pub imports : AreImports rows.imports
  pub keeps : AreKeeps rows.keeps

-- each row passes its tests
pub record AreValidRows (limits : Bounds) (rows : TableRows) : Type 0 where
  pub few : length rows.books ≤ limits.books_max
  pub books : AreCheckedBooks limits rows.members rows.keeps rows.books
  pub members : AreValidMembers rows.books rows.members
  pub imports : AreValidImports rows.books rows.imports
  pub keeps : AllByRecursion (λ k. HasBookId rows.books k.book) rows.keeps

-- the rows have the columns of their tables, and represent well-formed books
pub record AreWellStored (limits : Bounds) (books members imports keeps : List Row) : Type 0 where
  pub shown : AreTableRows books members imports keeps
  pub well_formed : AreWellFormed limits (decode_rows books members imports keeps)
