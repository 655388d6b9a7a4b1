-- Readable and sound rows, and rows of well-formed books.
use Rattle.std.specs.Prelude.{◌≡◌, ℤ, true, List, IfSome}
use Rattle.std.specs.List.{AllByRecursion, list_any}
use Rattle.sqlite.specs.Effect.{Database}
use Rattle.book_model.specs.Bounds.{Bounds}
use Rattle.book_model.specs.WellFormed.{IsWellFormed}
use Rattle.store_tables.specs.Books.{BookRow, Numbers, AreBooks, has_id}
use Rattle.store_tables.specs.Members.{MemberRow, AreMembers}
use Rattle.store_tables.specs.Imports.{ImportRow, AreImports}
use Rattle.store_tables.specs.Keeps.{KeepRow, AreKeeps}
use Rattle.store_rows.specs.Values.{IsCanonical, IsLegalUid, IsNatural}
use Rattle.store_rows.specs.TableRows.{TableRows, HoldsRows}
use Rattle.store_rows.specs.TableBooks.{books_of}

-- ---- readable rows

pub record AreNaturalNumbers (n : Numbers) : Type 0 where
  pub number : IsNatural n.number
  pub horizon : IsNatural n.horizon
  pub created : IsNatural n.created
  pub edited : IsNatural n.edited
  pub imported : IsNatural n.imported
  pub import_edited : IsNatural n.import_edited
  pub moved_in : IsNatural n.moved_in
  pub deleted : IsNatural n.deleted
  pub moved_out : IsNatural n.moved_out

pub record IsReadableBook (b : BookRow) : Type 0 where
  pub id : IsNatural b.id
  pub numbers : AreNaturalNumbers b.numbers

-- the UID is legal, and the text of a card is canonical
pub record IsReadableMember (m : MemberRow) : Type 0 where
  pub uid : IsLegalUid m.uid
  pub changed : IsNatural m.changed
  pub card : IfSome m.card IsCanonical

pub record IsReadableImport (i : ImportRow) : Type 0 where
  pub added : IsNatural i.added
  pub edited : IsNatural i.edited
  pub same : IsNatural i.same
  pub number : IsNatural i.number

abbrev pub IsReadableKeep : KeepRow → Type 0
IsReadableKeep k = IsNatural k.keep

-- no number is negative, each UID is legal, and the text of each card is canonical: no default
-- replaces a value
pub record AreReadable (rows : TableRows) : Type 0 where
  pub books : AllByRecursion IsReadableBook rows.books
  pub members : AllByRecursion IsReadableMember rows.members
  pub imports : AllByRecursion IsReadableImport rows.imports
  pub keeps : AllByRecursion IsReadableKeep rows.keeps

-- ---- sound rows

-- a book has the id
abbrev pub HasBookId : List BookRow → ℤ → Type 0
HasBookId bs id = list_any (has_id id) bs ≡ true

-- Ids and names of books are unique, and so are UIDs and import keys in one book. A book has at
-- most one keep. Each member, import and keep belongs to a book of the table. No number is negative,
-- each UID is legal, and the text of each card is canonical: so no default replaces a value of the
-- rows in their books.
pub record AreSoundRows (rows : TableRows) : Type 0 where
  pub books : AreBooks rows.books
  pub members : AreMembers rows.members
  pub imports : AreImports rows.imports
  pub keeps : AreKeeps rows.keeps
  pub listed_members : AllByRecursion (λ m. HasBookId rows.books m.book) rows.members
  pub listed_imports : AllByRecursion (λ i. HasBookId rows.books i.book) rows.imports
  pub listed_keeps : AllByRecursion (λ k. HasBookId rows.books k.book) rows.keeps
  pub readable : AreReadable rows

-- the database holds sound rows
pub record HoldsSoundRows (db : Database) : Type 0 where
  pub rows : TableRows
  pub holds : HoldsRows db rows
  pub sound : AreSoundRows rows

-- ---- rows of well-formed books

-- The rows are sound, and their books are well formed. A book without a row of its keep has the keep
-- 0, which no well-formed book has, so each book has such a row.
pub record AreWellFormed (limits : Bounds) (rows : TableRows) : Type 0 where
  pub sound : AreSoundRows rows
  pub books : IsWellFormed limits (books_of rows)

-- the database holds the rows of well-formed books
pub record HoldsWellFormed (limits : Bounds) (db : Database) : Type 0 where
  pub rows : TableRows
  pub holds : HoldsRows db rows
  pub well_formed : AreWellFormed limits rows
