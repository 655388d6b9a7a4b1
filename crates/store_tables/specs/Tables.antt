-- The five declared tables and the indexes of their keys, as `sqlite_schema` represents them. The
-- rows of a table are in the tree with the number `tree`.
use Rattle.std.specs.Prelude.{ℕ, true, false, List, [], ◌∷◌, Some, None, codes}
use Rattle.sqlite.specs.Collation.TheVariants.{Binary}
use Rattle.sqlite.specs.Kind.TheVariants.{Integer, Text}
use Rattle.sqlite.specs.Schema.{Schema}
use Rattle.sqlite.specs.Table.{Table}
use Rattle.sqlite.specs.Tree.{Trees}
use Rattle.sqlite.specs.declared.types.Value.TheVariants.{Null}
use Rattle.sqlite_catalog.specs.Listing.{IsSound}
use Rattle.sqlite_schema.specs.declared.schema.Action.TheVariants.{NoAction}
use Rattle.sqlite_schema.specs.declared.schema.Column.{Column}
use Rattle.sqlite_schema.specs.declared.schema.Index.{Index}
use Rattle.sqlite_schema.specs.declared.schema.Reference.{Reference}

-- ---- the trees of the tables' rows

abbrev pub meta_tree : ℕ
meta_tree = 0

abbrev pub book_tree : ℕ
book_tree = 2

abbrev pub member_tree : ℕ
member_tree = 4

abbrev pub import_tree : ℕ
import_tree = 7

abbrev pub keep_tree : ℕ
keep_tree = 9

-- ---- columns

-- an integer column that is never null
abbrev pub integer : List ℕ → Column
integer name = record {
  name = name;
  kind = Integer;
  is_strict = true;
  not_null = true;
  default = Null;
  collation = Binary;
}

-- a text column that is never null
abbrev pub text : List ℕ → Column
text name = record (integer name) { kind = Text }

-- a text column that may be null
abbrev pub text_or_null : List ℕ → Column
text_or_null name = record (text name) { not_null = false }

-- the column of the row id
abbrev pub row_id : List ℕ → Column
row_id name = record (integer name) { not_null = false }

-- the column references the id of a book
abbrev pub book_reference : ℕ → Reference
book_reference column = record {
  columns = column ∷ [];
  parent = codes "book";
  parent_columns = codes "id" ∷ [];
  on_delete = NoAction;
  on_update = NoAction;
  is_deferred = false;
}

-- ---- tables

-- a table without a key
abbrev pub table_of : List ℕ → ℕ → List Column → Table
table_of name tree columns = record {
  name = name;
  tree = tree;
  columns = columns;
  key = None;
  primary = [];
  uniques = [];
  orders = [];
  checks = [];
  references = [];
  computed = [];
  stamps = record { places = []; terms = []; formats = [] };
  is_counted = false;
}

-- the schema number, under the name `schema`
abbrev pub meta : Table
meta = record (table_of (codes "meta") meta_tree (text (codes "name") ∷ integer (codes "val") ∷ [])) {
  primary = 1 ∷ [];
  uniques = (1 ∷ []) ∷ [];
  orders = record { digits = 0 } ∷ [];
}

abbrev pub book_columns : List Column
book_columns =
    row_id (codes "id") ∷ text (codes "name") ∷ integer (codes "number") ∷ integer (codes "horizon")
    ∷ integer (codes "created") ∷ integer (codes "edited") ∷ integer (codes "imported")
    ∷ integer (codes "import_edited") ∷ integer (codes "moved_in") ∷ integer (codes "deleted")
    ∷ integer (codes "moved_out") ∷ []

abbrev pub book : Table
book = record (table_of (codes "book") book_tree book_columns) {
  key = Some 0;
  primary = 0 ∷ [];
  uniques = (2 ∷ []) ∷ [];
  orders = record { digits = 0 } ∷ [];
}

abbrev pub member_columns : List Column
member_columns =
    integer (codes "book") ∷ text (codes "uid") ∷ integer (codes "changed")
    ∷ text_or_null (codes "card") ∷ []

abbrev pub member : Table
member = record (table_of (codes "member") member_tree member_columns) {
  primary = 1 ∷ 2 ∷ [];
  uniques = (1 ∷ 2 ∷ []) ∷ (1 ∷ 3 ∷ []) ∷ [];
  orders = record { digits = 0 } ∷ record { digits = 0 } ∷ [];
  references = book_reference 1 ∷ [];
}

abbrev pub import_columns : List Column
import_columns =
    integer (codes "book") ∷ text (codes "ikey") ∷ integer (codes "added")
    ∷ integer (codes "edited")
    ∷ integer (codes "same") ∷ integer (codes "number") ∷ []

abbrev pub import_key : Table
import_key = record (table_of (codes "import_key") import_tree import_columns) {
  primary = 1 ∷ 2 ∷ [];
  uniques = (1 ∷ 2 ∷ []) ∷ [];
  orders = record { digits = 0 } ∷ [];
  references = book_reference 1 ∷ [];
}

abbrev pub keeping_columns : List Column
keeping_columns = row_id (codes "book") ∷ integer (codes "keep") ∷ []

abbrev pub keeping : Table
keeping = record (table_of (codes "keeping") keep_tree keeping_columns) {
  key = Some 0;
  primary = 0 ∷ [];
  references = book_reference 0 ∷ [];
}

-- ---- the schema

-- the index of a key
abbrev pub key_index : List ℕ → ℕ → ℕ → List ℕ → Index
key_index name tree table columns = record {
  name = name;
  tree = tree;
  table = table;
  columns = columns;
  order = record { digits = 0 };
  is_unique = true;
}

abbrev pub key_indexes : List Index
key_indexes =
    key_index (codes "sqlite_autoindex_meta_1") 1 0 (1 ∷ [])
    ∷ key_index (codes "sqlite_autoindex_book_1") 3 2 (2 ∷ [])
    ∷ key_index (codes "sqlite_autoindex_member_1") 5 4 (1 ∷ 2 ∷ [])
    ∷ key_index (codes "sqlite_autoindex_member_2") 6 4 (1 ∷ 3 ∷ [])
    ∷ key_index (codes "sqlite_autoindex_import_key_1") 8 7 (1 ∷ 2 ∷ []) ∷ []

abbrev pub book_schema : Schema
book_schema = record {
  tables = meta ∷ book ∷ member ∷ import_key ∷ keeping ∷ [];
  indexes = key_indexes;
  views = [];
}

-- The list of objects declares the tables, and the rows obey their constraints: the types of the
-- columns, the keys and the references. `sqlite` keeps this true of every open connection, and
-- `Connection::schema` ensures it.
abbrev pub ObeyTables : Trees → Type 0
ObeyTables = IsSound book_schema
