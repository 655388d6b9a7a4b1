-- The rows that statements over whole tables return, against the database.
use Rattle.std.specs.Prelude.{◌↔◌, List, map}
use Rattle.std.specs.List.Sorted.{IsPermutation}
use Rattle.sqlite.specs.Effect.{Database}
use Rattle.sqlite.specs.Order.{Row}
use Rattle.book_model.specs.Bounds.{Bounds}
use Rattle.store_tables.specs.Books.{book_listed}
use Rattle.store_tables.specs.Imports.{import_cells}
use Rattle.store_tables.specs.Keeps.{keep_listed}
use Rattle.store_tables.specs.Members.{member_cells}
use Rattle.store_tables.specs.Tables.{ObeyTables}
use Rattle.store_rows.specs.SoundTables.{HoldsWellFormed}
use Rattle.store_schema.specs.StoredSchema.{IsCurrentSchema}
use Rattle.store_check.specs.RowChecks.{AreWellStored}

-- the rows of the four tables, as the statements over whole tables return them, in any order
pub record AreListedRows (db : Database) (books members imports keeps : List Row) : Type 0 where
  pub all_books : IsPermutation (map book_listed (db.trees 2)) books
  pub all_members : IsPermutation (map member_cells (db.trees 4)) members
  pub all_imports : IsPermutation (map import_cells (db.trees 7)) imports
  pub all_keeps : IsPermutation (map keep_listed (db.trees 9)) keeps

-- the rows of all tables but that of the members
pub record AreBookRows (db : Database) (books imports keeps : List Row) : Type 0 where
  pub all_books : IsPermutation (map book_listed (db.trees 2)) books
  pub all_imports : IsPermutation (map import_cells (db.trees 7)) imports
  pub all_keeps : IsPermutation (map keep_listed (db.trees 9)) keeps

-- Tables of this schema hold well-formed books exactly if they obey it, as those of an open
-- connection do, and the listed rows are well stored.
abbrev pub WellStoredAreHeld : Type 0
WellStoredAreHeld = (limits : Bounds) (db : Database) (books members imports keeps : List Row) →
    IsCurrentSchema db → AreListedRows db books members imports keeps →
    (ObeyTables db.trees × AreWellStored limits books members imports keeps)
    ↔ HoldsWellFormed limits db
