-- The SQL texts, and the programs that they compile to.
use Rattle.std.specs.Prelude.{ℕ, pos, negsuc, List, [], ◌∷◌, codes, false, Some, None}
use Rattle.sqlite.specs.Collation.TheVariants.{Binary}
use Rattle.sqlite.specs.declared.types.Value.TheVariants.{Null, Int, Text}
use Rattle.sqlite.specs.Command.{Command}
use Rattle.sqlite.specs.Command.TheVariants.{Insert, InsertOr}
use Rattle.sqlite.specs.Source.TheVariants.{Values}
use Rattle.sqlite_schema.specs.declared.command.Conflict.TheVariants.{Abort}
use Rattle.sqlite_schema.specs.declared.command.Upsert.{Upsert}
use Rattle.sqlite_sql.specs.declared.ops.CompareOp.TheVariants.{Eq, Gt, Le}
use Rattle.sqlite_sql.specs.declared.ops.BinaryOp.TheVariants.{Compare, Or, Is}
use Rattle.sqlite_sql.specs.declared.ops.UnaryOp.TheVariants.{Not}
use Rattle.sqlite_value.specs.declared.keys.Key.{Key}
use Rattle.sqlite.specs.Term.{Term, lit, col, op1, op2}
use Rattle.sqlite.specs.Query.{Query, inner, end}
use Rattle.sqlite_sql.specs.declared.aggregate.AggregateOp.TheVariants.{CountRows}

abbrev pub put_text : List ℕ
put_text =
    codes
    "INSERT INTO member (book, uid, changed, card) VALUES (?1, ?2, ?3, ?4) ON CONFLICT (book, uid) DO UPDATE SET changed = excluded.changed, card = excluded.card"

abbrev pub put_terms : List Term
put_terms = lit Null ∷ col 0 0 ∷ col 0 1 ∷ col 0 2 ∷ col 0 3 ∷ []

-- one table, with no limit
abbrev pub picks : ℕ → List Term → List Term → Query
picks tree filter project = record {
  from = inner tree end;
  filter = filter;
  group = None;
  project = project;
  distinct = false;
  collations = [];
  order = [];
  limit = lit (Int (negsuc 0));
  offset = lit (Int (pos 0));
}

abbrev pub put_query : Query
put_query = picks 4 (op2 (Compare Eq Binary) (col 1 0) (col 0 4) ∷ [])
    (col 1 0 ∷ col 1 0 ∷ col 1 1 ∷ col 1 2 ∷ col 0 8 ∷ col 0 9 ∷ [])

abbrev pub put_clause : Upsert
put_clause = record {
  target = Some (1 ∷ 2 ∷ []);
  update = Some (record { lets = []; body = put_query });
}

abbrev pub put_command : Command
put_command = InsertOr 2 Abort (Values put_terms 5) (put_clause ∷ [])

abbrev pub add_member_text : List ℕ
add_member_text = codes "INSERT INTO member (book, uid, changed, card) VALUES (?1, ?2, ?3, ?4)"

abbrev pub add_member_command : Command
add_member_command = Insert 2 (Values put_terms 5)

abbrev pub change_text : List ℕ
change_text = codes "UPDATE member SET changed = ?3, card = ?4 WHERE book = ?1 AND uid = ?2"

abbrev pub change_query : Query
change_query = picks 4 (op2 (Compare Eq Binary) (col 1 1) (col 0 0) ∷ op2 (Compare Eq Binary)
    (col 1 2) (col 0 1) ∷ []) (col 1 0 ∷ col 1 0 ∷ col 1 1 ∷ col 1 2 ∷ col 0 2 ∷ col 0 3 ∷ [])

abbrev pub find_text : List ℕ
find_text = codes "SELECT changed, card FROM member WHERE book = ?1 AND uid = ?2"

abbrev pub find_query : Query
find_query = picks 4 (op2 (Compare Eq Binary) (col 1 1) (col 0 0) ∷ op2 (Compare Eq Binary)
    (col 1 2) (col 0 1) ∷ []) (col 1 3 ∷ col 1 4 ∷ [])

abbrev pub due_text : List ℕ
due_text =
    codes
    "SELECT uid, changed, card FROM member WHERE book = ?1 AND changed > ?2 AND (card IS NOT NULL OR changed > ?3) ORDER BY changed LIMIT ?4"

abbrev pub due_tests : List Term
due_tests =
    op2 (Compare Eq Binary) (col 1 1) (col 0 0) ∷ op2 (Compare Gt Binary) (col 1 3) (col 0 1)
    ∷ op2 Or (op1 Not (op2 (Is Binary) (col 1 4) (lit Null))) (op2 (Compare Gt Binary) (col 1 3)
    (col 0 2)) ∷ []

abbrev pub due_query : Query
due_query = record (picks 4 due_tests (col 1 2 ∷ col 1 3 ∷ col 1 4 ∷ [])) {
  order = (
    col 1 3,
    record { collation = Binary; descending = false },
  ) ∷ [];
  limit = col 0 3;
}

-- one table, sorted
abbrev pub ordering : ℕ → List Term → List Term → List (Term × Key) → Query
ordering tree filter project order = record (picks tree filter project) { order = order }

abbrev pub rising : Term → List (Term × Key)
rising by = (by, record { collation = Binary; descending = false }) ∷ []

-- removed above a number
abbrev pub count_tests : List Term
count_tests = op2 (Compare Eq Binary) (col 1 1) (col 0 0) ∷ op2 (Is Binary) (col 1 4) (lit Null) ∷
    op2 (Compare Gt Binary) (col 1 3) (col 0 1) ∷ []

abbrev pub removed_text : List ℕ
removed_text =
    codes
    "SELECT changed FROM member WHERE book = ?1 AND card IS NULL AND changed > ?2 ORDER BY changed"

abbrev pub removed_query : Query
removed_query = ordering 4 count_tests (col 1 3 ∷ []) (rising (col 1 3))

abbrev pub members_text : List ℕ
members_text = codes "SELECT uid, changed, card FROM member WHERE book = ?1 ORDER BY changed"

abbrev pub members_query : Query
members_query = ordering 4 (op2 (Compare Eq Binary) (col 1 1) (col 0 0) ∷ [])
    (col 1 2 ∷ col 1 3 ∷ col 1 4 ∷ []) (rising (col 1 3))

-- the book with a name
abbrev pub book_text : List ℕ
book_text =
    codes
    "SELECT id, number, horizon, created, edited, imported, import_edited, moved_in, deleted, moved_out FROM book WHERE name = ?1"

abbrev pub book_query : Query
book_query = picks 2 (op2 (Compare Eq Binary) (col 1 2) (col 0 0) ∷ [])
    (col 1 0 ∷ col 1 3 ∷ col 1 4 ∷ col 1 5 ∷ col 1 6 ∷ col 1 7 ∷ col 1 8 ∷ col 1 9 ∷ col 1 10 ∷ col
    1 11 ∷ [])

abbrev pub forget_text : List ℕ
forget_text = codes "DELETE FROM member WHERE book = ?1 AND card IS NULL AND changed <= ?2"

abbrev pub count_text : List ℕ
count_text = codes "SELECT COUNT(*) FROM member WHERE book = ?1 AND card IS NULL AND changed > ?2"

abbrev pub update_text : List ℕ
update_text =
    codes
    "UPDATE book SET number = ?2, horizon = ?3, created = ?4, edited = ?5, imported = ?6, import_edited = ?7, moved_in = ?8, deleted = ?9, moved_out = ?10 WHERE id = ?1"

abbrev pub forget_tests : List Term
forget_tests = op2 (Compare Eq Binary) (col 1 1) (col 0 0) ∷ op2 (Is Binary) (col 1 4) (lit Null) ∷
    op2 (Compare Le Binary) (col 1 3) (col 0 1) ∷ []

abbrev pub forget_query : Query
forget_query = picks 4 forget_tests (col 1 0 ∷ [])

-- the row id, and the new row
abbrev pub update_query : Query
update_query = picks 2 (op2 (Compare Eq Binary) (col 1 0) (col 0 0) ∷ [])
    (col 1 0 ∷ col 1 0 ∷ lit Null ∷ col 1 2 ∷ col 0 1 ∷ col 0 2 ∷ col 0 3 ∷ col 0 4 ∷ col 0 5 ∷ col
    0 6 ∷ col 0 7 ∷ col 0 8 ∷ col 0 9 ∷ [])

-- the count of the rows that pass
abbrev pub counting : ℕ → List Term → Query
counting tree tests = record (picks tree tests (col 1 0 ∷ [])) {
  group = Some (record {
    keys = [];
    collations = [];
    aggregates = record {
      op = CountRows;
      distinct = false;
      collation = Binary;
      argument = lit Null;
    } ∷ [];
    having = [];
  });
}

abbrev pub count_query : Query
count_query = counting 4 count_tests

abbrev pub books_count_text : List ℕ
books_count_text = codes "SELECT COUNT(*) FROM book"

abbrev pub books_count_query : Query
books_count_query = counting 2 []

-- the import with a key
abbrev pub import_text : List ℕ
import_text =
    codes "SELECT added, edited, same, number FROM import_key WHERE book = ?1 AND ikey = ?2"

abbrev pub import_query : Query
import_query = picks 7 (op2 (Compare Eq Binary) (col 1 1) (col 0 0) ∷ op2 (Compare Eq Binary)
    (col 1 2) (col 0 1) ∷ []) (col 1 3 ∷ col 1 4 ∷ col 1 5 ∷ col 1 6 ∷ [])

-- the keep of a book
abbrev pub keep_text : List ℕ
keep_text = codes "SELECT keep FROM keeping WHERE book = ?1"

abbrev pub keep_query : Query
keep_query = picks 9 (op2 (Compare Eq Binary) (col 1 0) (col 0 0) ∷ []) (col 1 2 ∷ [])

abbrev pub number_names : List (List ℕ)
number_names = codes "number" ∷ codes "horizon" ∷ codes "created" ∷ codes "edited" ∷ codes
    "imported" ∷ codes "import_edited" ∷ codes "moved_in" ∷ codes "deleted" ∷ codes "moved_out" ∷ []

-- the import with a key
abbrev pub add_import_text : List ℕ
add_import_text =
    codes
    "INSERT INTO import_key (book, ikey, added, edited, same, number) VALUES (?1, ?2, ?3, ?4, ?5, ?6)"

abbrev pub add_import_terms : List Term
add_import_terms = lit Null ∷ col 0 0 ∷ col 0 1 ∷ col 0 2 ∷ col 0 3 ∷ col 0 4 ∷ col 0 5 ∷ []

abbrev pub add_import_command : Command
add_import_command = Insert 3 (Values add_import_terms 7)

-- an empty book
abbrev pub add_book_text : List ℕ
add_book_text =
    codes
    "INSERT INTO book (id, name, number, horizon, created, edited, imported, import_edited, moved_in, deleted, moved_out) VALUES (?1, ?2, 0, 0, 0, 0, 0, 0, 0, 0, 0)"

abbrev pub zero : Term
zero = lit (Int (pos 0))

abbrev pub add_book_terms : List Term
add_book_terms = col 0 0 ∷ lit Null ∷ col 0 1 ∷ zero ∷ zero ∷ zero ∷ zero ∷ zero ∷ zero ∷ zero ∷
    zero ∷ zero ∷ []

abbrev pub add_book_command : Command
add_book_command = Insert 1 (Values add_book_terms 12)

-- the keep of a book
abbrev pub add_keep_text : List ℕ
add_keep_text = codes "INSERT INTO keeping (book, keep) VALUES (?1, ?2)"

abbrev pub add_keep_terms : List Term
add_keep_terms = col 0 0 ∷ lit Null ∷ col 0 1 ∷ []

abbrev pub add_keep_command : Command
add_keep_command = Insert 4 (Values add_keep_terms 3)

-- the schema number
abbrev pub add_schema_text : List ℕ
add_schema_text = codes "INSERT INTO meta (name, val) VALUES ('schema', ?1)"

abbrev pub add_schema_terms : List Term
add_schema_terms = lit Null ∷ lit (Text (codes "schema")) ∷ col 0 0 ∷ []

abbrev pub add_schema_command : Command
add_schema_command = Insert 0 (Values add_schema_terms 3)

-- ---- whole tables

abbrev pub books_text : List ℕ
books_text =
    codes
    "SELECT id, name, number, horizon, created, edited, imported, import_edited, moved_in, deleted, moved_out FROM book ORDER BY name"

abbrev pub books_terms : List Term
books_terms = col 1 0 ∷ col 1 2 ∷ col 1 3 ∷ col 1 4 ∷ col 1 5 ∷ col 1 6 ∷ col 1 7 ∷ col 1 8 ∷ col 1
    9 ∷ col 1 10 ∷ col 1 11 ∷ []

abbrev pub books_query : Query
books_query = ordering 2 [] books_terms (rising (col 1 2))

abbrev pub all_members_text : List ℕ
all_members_text = codes "SELECT rowid, book, uid, changed, card FROM member"

abbrev pub all_members_terms : List Term
all_members_terms = col 1 0 ∷ col 1 1 ∷ col 1 2 ∷ col 1 3 ∷ col 1 4 ∷ []

-- the members in the order of their row ids
abbrev pub scan_text : List ℕ
scan_text = codes "SELECT rowid, book, uid, changed, card FROM member ORDER BY rowid"

abbrev pub scan_query : Query
scan_query = ordering 4 [] all_members_terms (rising (col 1 0))

abbrev pub all_imports_text : List ℕ
all_imports_text = codes "SELECT rowid, book, ikey, added, edited, same, number FROM import_key"

abbrev pub all_imports_terms : List Term
all_imports_terms = col 1 0 ∷ col 1 1 ∷ col 1 2 ∷ col 1 3 ∷ col 1 4 ∷ col 1 5 ∷ col 1 6 ∷ []

abbrev pub all_keeps_text : List ℕ
all_keeps_text = codes "SELECT book, keep FROM keeping"

abbrev pub all_keeps_terms : List Term
all_keeps_terms = col 1 0 ∷ col 1 2 ∷ []

abbrev pub meta_text : List ℕ
meta_text = codes "SELECT name, val FROM meta"

abbrev pub meta_terms : List Term
meta_terms = col 1 1 ∷ col 1 2 ∷ []
