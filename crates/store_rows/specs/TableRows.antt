-- The rows of all tables, as values.
use Rattle.std.specs.Prelude.{◌≡◌, ℕ, ℤ, List, [], ◌∷◌, map, Option}
use Rattle.sqlite.specs.Effect.{Database}
use Rattle.sqlite.specs.Order.{Row, column}
use Rattle.sqlite.specs.Tree.{Trees}
use Rattle.sqlite_rules.specs.Edit.{id_in}
use Rattle.store_tables.specs.Tables.{ObeyTables, book_schema}
use Rattle.store_tables.specs.Books.{BookRow, HoldBooks, Numbers}
use Rattle.store_tables.specs.Books.{numbers, with_book_numbers, blank_book}
use Rattle.store_tables.specs.Members.{MemberRow, HoldMembers, upsert_member, without_removed}
use Rattle.store_tables.specs.Imports.{ImportRow, HoldImports, new_import_row}
use Rattle.store_tables.specs.Keeps.{KeepRow, HoldKeeps, keep_row_of}
use Rattle.store_tables.specs.Meta.{meta_listed, schema_row, schema_number}
use Rattle.store_tables.specs.StatementEffects.{KeepsOtherTables}
use Rattle.store_rows.specs.Values.{text_or_empty, text_or_none}

pub record TableRows : Type 0 where
  pub books : List BookRow
  pub members : List MemberRow
  pub imports : List ImportRow
  pub keeps : List KeepRow

abbrev pub no_rows : TableRows
no_rows = record { books = []; members = []; imports = []; keeps = [] }

-- ---- rows read column by column

abbrev pub load_book : Row → BookRow
load_book r = record {
  id = id_in (column r 0);
  name = text_or_empty (column r 2);
  numbers = numbers (id_in (column r 3)) (id_in (column r 4)) (id_in (column r 5))
      (id_in (column r 6)) (id_in (column r 7)) (id_in (column r 8)) (id_in (column r 9))
      (id_in (column r 10)) (id_in (column r 11));
}

abbrev pub load_member : Row → MemberRow
load_member r = record {
  id = id_in (column r 0);
  book = id_in (column r 1);
  uid = text_or_empty (column r 2);
  changed = id_in (column r 3);
  card = text_or_none (column r 4);
}

abbrev pub load_import : Row → ImportRow
load_import r = new_import_row (id_in (column r 0)) (id_in (column r 1))
    (text_or_empty (column r 2)) (id_in (column r 3)) (id_in (column r 4))
    (id_in (column r 5)) (id_in (column r 6))

abbrev pub load_keep : Row → KeepRow
load_keep r = keep_row_of (id_in (column r 0)) (id_in (column r 2))

-- the rows of the four tables, in their stored order
abbrev pub rows_in : Trees → TableRows
rows_in trees = record {
  books = map load_book (trees 2);
  members = map load_member (trees 4);
  imports = map load_import (trees 7);
  keeps = map load_keep (trees 9);
}

-- ---- the contents of the tables

-- The tables are declared, have the schema number, and hold these rows in any order. The list of
-- objects declares the same tables, so an opening after a crash finds them declared.
pub record HoldsRows (db : Database) (rows : TableRows) : Type 0 where
  pub schema : db.schema ≡ book_schema
  pub obeys : ObeyTables db.trees
  pub meta : map meta_listed (db.trees 0) ≡ schema_row schema_number ∷ []
  pub books : HoldBooks (db.trees 2) rows.books
  pub members : HoldMembers (db.trees 4) rows.members
  pub imports : HoldImports (db.trees 7) rows.imports
  pub keeps : HoldKeeps (db.trees 9) rows.keeps

-- ---- the effect of a statement

-- only this table was written, and the rows still obey the tables
pub record WritesTable (tree : ℕ) (old new : Database) : Type 0 where
  pub schema : new.schema ≡ book_schema
  pub obeys : ObeyTables new.trees
  pub other_tables : KeepsOtherTables tree old.trees new.trees

-- a member is upserted, under this id if it is new
abbrev pub put_rows : ℤ → ℤ → List ℕ → ℤ → Option (List ℕ) → TableRows → TableRows
put_rows id book uid changed card rows =
    record rows { members = upsert_member id book uid changed card rows.members }

-- the members that were removed up to the number are deleted
abbrev pub forgotten_rows : ℤ → ℤ → TableRows → TableRows
forgotten_rows book upto rows =
    record rows { members = without_removed book upto rows.members }

-- a book gets new numbers
abbrev pub renumbered_rows : ℤ → Numbers → TableRows → TableRows
renumbered_rows id numbers rows = record rows { books = with_book_numbers id numbers rows.books }

-- an import is added
abbrev pub import_rows : ImportRow → TableRows → TableRows
import_rows new rows = record rows { imports = new ∷ rows.imports }

-- an empty book is added, without a keep
abbrev pub new_book_rows : ℤ → List ℕ → TableRows → TableRows
new_book_rows id name rows = record rows { books = blank_book id name ∷ rows.books }

-- a book's keep is added
abbrev pub keep_rows : ℤ → ℤ → TableRows → TableRows
keep_rows book keep rows = record rows { keeps = keep_row_of book keep ∷ rows.keeps }
