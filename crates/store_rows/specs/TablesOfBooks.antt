-- The tables of a store, computed from its books. Only the order of the rows, and the ids of members
-- and of imports, don't follow from the books.
use Rattle.std.specs.Prelude.{◌≡◌, ℕ, pos, false, List, [], ◌∷◌, drop, flat_map, map}
use Rattle.std.specs.FinMap as finite
use Rattle.std.specs.List.{AllByRecursion}
use Rattle.std.specs.List.Sorted.{IsPermutation}
use Rattle.std.specs.Option.{option_map}
use Rattle.std.specs.Ordering.{int_eq}
use Rattle.sqlite.specs.declared.types.Value.TheVariants.{Int, Text}
use Rattle.sqlite.specs.Effect.{Database}
use Rattle.sqlite.specs.Order.{Row, column}
use Rattle.sqlite.specs.Values.{or_null}
use Rattle.sqlite_rules.specs.Edit.{id_in}
use Rattle.sqlite_trees.specs.Tree.{IsAscending}
use Rattle.vcard_text.specs.Cards.{canonical_text}
use Rattle.book_model.specs.declared.answers.ImportTally.{ImportTally}
use Rattle.book_model.specs.declared.row.Row.{Row as Member}
use Rattle.book_model.specs.Books.{Book, Books}
use Rattle.book_model.specs.Bounds.{Bounds}
use Rattle.store_tables.specs.Books.{book_cells, book_row}
use Rattle.store_tables.specs.Imports.{import_cells}
use Rattle.store_tables.specs.Keeps.{keep_cells, keep_row, keep_row_of}
use Rattle.store_tables.specs.Members.{member_cells}
use Rattle.store_tables.specs.Meta.{meta_listed, schema_number, schema_row}
use Rattle.store_tables.specs.Tables.{ObeyTables, book_schema}
use Rattle.store_rows.specs.SoundTables.{HoldsWellFormed}
use Rattle.store_rows.specs.TableBooks.{books_in, line_row}

-- ---- one row

-- the row of the book with the name: its id, its name, and its numbers and counts
abbrev pub stored_book : List ℕ × Book → Row
stored_book e = book_row (line_row e.0 (record {
  id = e.1.id;
  number = e.1.number;
  horizon = e.1.horizon;
  counts = e.1.counts;
}))

-- the columns of a member after its id: its book's id, its UID, the number of its last change, and
-- the canonical text of its card, or null if it was removed
abbrev pub stored_member : Book → List ℕ × Member → Row
stored_member book e =
    Int (pos book.id) ∷ Text e.0 ∷ Int (pos e.1.changed)
    ∷ or_null Text (option_map canonical_text e.1.card) ∷ []

-- the columns of an import after its id: its book's id, its key, and its tally
abbrev pub stored_import : Book → List ℕ × ImportTally → Row
stored_import book e =
    Int (pos book.id) ∷ Text e.0 ∷ Int (pos e.1.added) ∷ Int (pos e.1.edited)
    ∷ Int (pos e.1.same) ∷ Int (pos e.1.number) ∷ []

-- the row of a book's keep
abbrev pub stored_keep : List ℕ × Book → Row
stored_keep e = keep_row (keep_row_of (pos e.1.id) (pos e.1.keep))

-- ---- whole tables

abbrev pub stored_members : Books → List Row
stored_members books =
    flat_map (λ (e : List ℕ × Book). map (stored_member e.1) (finite.entries e.1.members))
    (finite.entries books)

abbrev pub stored_imports : Books → List Row
stored_imports books =
    flat_map (λ (e : List ℕ × Book). map (stored_import e.1) (finite.entries e.1.imports))
    (finite.entries books)

-- Each row is an id and one of these columns, in any order. The ids are integers, and no two rows
-- have the same.
pub record AreUnderIds (columns rows : List Row) : Type 0 where
  pub same : IsPermutation columns (map (drop 1) rows)
  pub ids : AllByRecursion (λ r. column r 0 ≡ Int (id_in (column r 0))) rows
  pub apart : IsAscending (λ a b. int_eq (id_in (column a 0)) (id_in (column b 0)) ≡ false) rows

-- The tables are declared, also in the list of objects. `meta` has one row, with the schema number,
-- and each other table has one row for each book, member, import or keep of these books, and no
-- others.
pub record AreTablesOf (books : Books) (db : Database) : Type 0 where
  pub schema : db.schema ≡ book_schema
  pub obeys : ObeyTables db.trees
  pub meta : map meta_listed (db.trees 0) ≡ schema_row schema_number ∷ []
  pub each_book : IsPermutation (map stored_book (finite.entries books))
      (map book_cells (db.trees 2))
  pub each_member : AreUnderIds (stored_members books) (map member_cells (db.trees 4))
  pub each_import : AreUnderIds (stored_imports books) (map import_cells (db.trees 7))
  pub each_keep : IsPermutation (map stored_keep (finite.entries books))
      (map keep_cells (db.trees 9))

-- tables that hold well-formed books are those of these books
abbrev pub TablesAreOfBooks : Type 0
TablesAreOfBooks = (limits : Bounds) (db : Database) → HoldsWellFormed limits db →
    AreTablesOf (books_in db.trees) db
