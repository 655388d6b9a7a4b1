-- Laws of whole tables, as they are read when a store is opened or created.
use Rattle.std.specs.Prelude.{◌≡◌, ◌↔◌, [], ◌∷◌, map}
use Rattle.std.specs.List.Sorted.{IsPermutation}
use Rattle.sqlite.specs.Effect.{Database}
use Rattle.sqlite.specs.Order.{Row}
use Rattle.store_tables.specs.Books.{book_listed, book_shown}
use Rattle.store_tables.specs.Imports.{import_row, import_cells}
use Rattle.store_tables.specs.Keeps.{KeepRow, keep_listed}
use Rattle.store_tables.specs.Members.{member_row, member_cells}
use Rattle.store_tables.specs.Meta.{IsEmptyStore, meta_listed, schema_row, schema_number}
use Rattle.store_tables.specs.Tables.{ObeyTables, book_schema}
use Rattle.sqlite.specs.declared.types.Value.TheVariants.{Int}
use Rattle.store_rows.specs.TableRows.{TableRows, HoldsRows, no_rows}

-- the result row of a keep
abbrev pub keep_pair : KeepRow → Row
keep_pair k = Int k.book ∷ Int k.keep ∷ []

-- The queries over whole tables return these rows, in any order.
pub record ListsRows (db : Database) (rows : TableRows) : Type 0 where
  pub meta : IsPermutation (map meta_listed (db.trees 0)) (schema_row schema_number ∷ [])
  pub books : IsPermutation (map book_listed (db.trees 2)) (map book_shown rows.books)
  pub members : IsPermutation (map member_cells (db.trees 4)) (map member_row rows.members)
  pub imports : IsPermutation (map import_cells (db.trees 7)) (map import_row rows.imports)
  pub keeps : IsPermutation (map keep_listed (db.trees 9)) (map keep_pair rows.keeps)

-- declared tables hold exactly the rows that the queries return
abbrev pub ListedRowsAreHeld : Type 0
ListedRowsAreHeld = (db : Database) (rows : TableRows) → db.schema ≡ book_schema →
    (ObeyTables db.trees × ListsRows db rows) ↔ HoldsRows db rows

-- newly created tables hold no rows
abbrev pub NewTablesAreEmpty : Type 0
NewTablesAreEmpty = (db : Database) → IsEmptyStore schema_number db → HoldsRows db no_rows
