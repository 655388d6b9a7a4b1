-- The effect of a CREATE TABLE, for any SQL text.
use Rattle.std.proofs.Common.{◌≡◌, ℕ, false, List, [], None, Ok, Err, Result, OnOk, refl, sym, ap}
use Rattle.std.proofs.Common.{subst, ◌∙◌}
use Rattle.std.specs.List.{AllByRecursion}
use Rattle.sqlite.specs.declared.error.Error.{Error}
use Rattle.sqlite.specs.Change.{created}
use Rattle.sqlite.specs.Command.TheVariants.{CreateTable}
use Rattle.sqlite.specs.Compile.{table_defined_by}
use Rattle.sqlite.specs.Does.{Tally, Does, MakesTable, lacks_sequence, sequence_text}
use Rattle.sqlite.specs.Effect.{Database}
use Rattle.sqlite.specs.Listing.{understood}
use Rattle.sqlite.specs.Rows.{Gives}
use Rattle.sqlite.specs.Schema.{Schema}
use Rattle.sqlite.specs.State.{State, ExecutesInside, Writes, mode_of}
use Rattle.sqlite.specs.Table.{Table}
use Rattle.sqlite.proofs.Callers.{IsPlain, command_of, statement_of, runs_as}
use Rattle.sqlite_catalog.specs.Change.{next_tree}
use Rattle.sqlite_catalog.specs.Listing.{IsSound}
use Rattle.sqlite_tied.specs.Compute.{everything}
use Rattle.std.specs.Prelude.{MatchBool, codes}
use Rattle.store_tables.specs.SchemaCreation.{IsTableCreated, empty_schema, with_meta, with_books}
use Rattle.store_tables.specs.SchemaCreation.{with_members, first_schema}
use Rattle.store_tables.specs.Tables.{meta, book, member, import_key, keeping, book_schema}
use Rattle.store_tables.proofs.PutLemmas.{went_on, same_value}

module _ (sql : List ℕ) (before after : Schema) (table : Table) (tree : ℕ) (defined :
    table_defined_by sql ≡ Ok table)
    (is : (command_of (understood before sql) ≡ CreateTable) × IsPlain (understood before sql))
    (whole : statement_of sql (understood before sql) ≡ sql)
    (made : created before table ≡ after) (next : next_tree before ≡ tree) (uncounted :
    lacks_sequence after ≡ false) where
  pub creates : (old new : State) (r : Result ℕ Error) → old.now.schema ≡ before
      → ExecutesInside 0 sql [] old new r
      → OnOk r (IsTableCreated before after tree old.now new.now)
  creates old new (Err e) has h = tt
  creates old new (Ok count) has h =
      let w : Writes old new None CreateTable (statement_of sql (understood before sql)) [] count =
      runs_as sql [] old new before has _ is.0 is.1 count h.0 in
      let does = subst (λ text. Does old.step_limit (mode_of old) []
      (record old.now { schema = before }) text None CreateTable (Ok (w.tally, new.now))) whole
      (subst (λ s. Does old.step_limit (mode_of old) [] (record old.now { schema = s })
      (statement_of sql (understood before sql)) None CreateTable (Ok (w.tally, new.now))) has
      w.changed) in
      let outer = went_on does in
      let inner = went_on outer.1 in
      let it = inner.1 in
      let same : it.table ≡ table = same_value (sym it.defined ∙ defined) in
      let schema : inner.0.schema ≡ after = it.is ∙ ap (created before) same ∙ made in
      let bare = subst (λ b. MatchBool b (MakesTable sequence_text inner.0 (Ok outer.0))
      (Gives inner.0 (Ok outer.0))) (ap lacks_sequence schema ∙ uncounted) inner.2 in
      let now : new.now ≡ inner.0 = ap (λ (p : Tally × Database). p.1) (same_value outer.2)
      ∙ same_value bare in
      record {
        schema = ap (λ (d : Database). d.schema) now ∙ schema;
        empty = ap (λ (d : Database). d.trees tree) now
            ∙ subst (λ t. inner.0.trees t ≡ []) next it.empty;
        obeys = subst (λ s. IsSound s new.now.trees) (ap (λ (d : Database). d.schema) now ∙ schema)
            w.sound;
        others = subst (λ trees. AllByRecursion (λ t. trees t.tree ≡ old.now.trees t.tree)
            before.tables) (ap (λ (d : Database). d.trees) (sym now)) it.others;
      }

abbrev pub meta_create : List ℕ
meta_create =
    codes "CREATE TABLE meta (name TEXT NOT NULL PRIMARY KEY, val INTEGER NOT NULL) STRICT"

pub meta_defined : table_defined_by meta_create ≡ Ok meta
unfolding understood everything
meta_defined = refl

pub meta_is : (command_of (understood empty_schema meta_create) ≡ CreateTable)
    × IsPlain (understood empty_schema meta_create)
unfolding understood everything
meta_is = (refl, (refl, refl))

pub meta_whole : statement_of meta_create (understood empty_schema meta_create) ≡ meta_create
unfolding understood everything
meta_whole = refl

pub meta_made : created empty_schema meta ≡ with_meta
unfolding everything
meta_made = refl

pub creates_meta : (old new : State) (r : Result ℕ Error) → old.now.schema ≡ empty_schema
    → ExecutesInside 0 meta_create [] old new r
    → OnOk r (IsTableCreated empty_schema with_meta 0 old.now new.now)
creates_meta = creates meta_create empty_schema with_meta meta 0 meta_defined meta_is meta_whole
    meta_made refl refl

abbrev pub books_create : List ℕ
books_create =
    codes
    "CREATE TABLE book (id INTEGER PRIMARY KEY, name TEXT NOT NULL UNIQUE, number INTEGER NOT NULL, horizon INTEGER NOT NULL, created INTEGER NOT NULL, edited INTEGER NOT NULL, imported INTEGER NOT NULL, import_edited INTEGER NOT NULL, moved_in INTEGER NOT NULL, deleted INTEGER NOT NULL, moved_out INTEGER NOT NULL) STRICT"

pub books_defined : table_defined_by books_create ≡ Ok (record book { tree = 0 })
unfolding understood everything
books_defined = refl

pub books_is : (command_of (understood with_meta books_create) ≡ CreateTable)
    × IsPlain (understood with_meta books_create)
unfolding understood everything
books_is = (refl, (refl, refl))

pub books_whole : statement_of books_create (understood with_meta books_create) ≡ books_create
unfolding understood everything
books_whole = refl

pub books_made : created with_meta (record book { tree = 0 }) ≡ with_books
unfolding everything
books_made = refl

pub creates_books : (old new : State) (r : Result ℕ Error) → old.now.schema ≡ with_meta
    → ExecutesInside 0 books_create [] old new r
    → OnOk r (IsTableCreated with_meta with_books 2 old.now new.now)
creates_books = creates books_create with_meta with_books (record book { tree = 0 }) 2 books_defined
    books_is books_whole books_made refl refl

abbrev pub members_create : List ℕ
members_create =
    codes
    "CREATE TABLE member (book INTEGER NOT NULL REFERENCES book(id), uid TEXT NOT NULL, changed INTEGER NOT NULL, card TEXT, PRIMARY KEY (book, uid), UNIQUE (book, changed)) STRICT"

pub members_defined : table_defined_by members_create ≡ Ok (record member { tree = 0 })
unfolding understood everything
members_defined = refl

pub members_is : (command_of (understood with_books members_create) ≡ CreateTable)
    × IsPlain (understood with_books members_create)
unfolding understood everything
members_is = (refl, (refl, refl))

pub members_whole : statement_of members_create (understood with_books members_create) ≡ members_create
unfolding understood everything
members_whole = refl

pub members_made : created with_books (record member { tree = 0 }) ≡ with_members
unfolding everything
members_made = refl

pub creates_members : (old new : State) (r : Result ℕ Error) → old.now.schema ≡ with_books
    → ExecutesInside 0 members_create [] old new r
    → OnOk r (IsTableCreated with_books with_members 4 old.now new.now)
creates_members = creates members_create with_books with_members (record member { tree = 0 }) 4
    members_defined members_is members_whole members_made refl refl

abbrev pub imports_create : List ℕ
imports_create =
    codes
    "CREATE TABLE import_key (book INTEGER NOT NULL REFERENCES book(id), ikey TEXT NOT NULL, added INTEGER NOT NULL, edited INTEGER NOT NULL, same INTEGER NOT NULL, number INTEGER NOT NULL, PRIMARY KEY (book, ikey)) STRICT"

pub imports_defined : table_defined_by imports_create ≡ Ok (record import_key { tree = 0 })
unfolding understood everything
imports_defined = refl

pub imports_is : (command_of (understood with_members imports_create) ≡ CreateTable)
    × IsPlain (understood with_members imports_create)
unfolding understood everything
imports_is = (refl, (refl, refl))

pub imports_whole : statement_of imports_create (understood with_members imports_create)
    ≡ imports_create
unfolding understood everything
imports_whole = refl

pub imports_made : created with_members (record import_key { tree = 0 }) ≡ first_schema
unfolding everything
imports_made = refl

pub creates_imports : (old new : State) (r : Result ℕ Error) → old.now.schema ≡ with_members
    → ExecutesInside 0 imports_create [] old new r
    → OnOk r (IsTableCreated with_members first_schema 7 old.now new.now)
creates_imports = creates imports_create with_members first_schema (record import_key { tree = 0 })
    7 imports_defined imports_is imports_whole imports_made refl refl

abbrev pub keeps_create : List ℕ
keeps_create =
    codes
    "CREATE TABLE keeping (book INTEGER PRIMARY KEY REFERENCES book(id), keep INTEGER NOT NULL) STRICT"

pub keeps_defined : table_defined_by keeps_create ≡ Ok (record keeping { tree = 0 })
unfolding understood everything
keeps_defined = refl

pub keeps_is : (command_of (understood first_schema keeps_create) ≡ CreateTable)
    × IsPlain (understood first_schema keeps_create)
unfolding understood everything
keeps_is = (refl, (refl, refl))

pub keeps_whole : statement_of keeps_create (understood first_schema keeps_create) ≡ keeps_create
unfolding understood everything
keeps_whole = refl

pub keeps_made : created first_schema (record keeping { tree = 0 }) ≡ book_schema
unfolding everything
keeps_made = refl

pub creates_keeps : (old new : State) (r : Result ℕ Error) → old.now.schema ≡ first_schema
    → ExecutesInside 0 keeps_create [] old new r
    → OnOk r (IsTableCreated first_schema book_schema 9 old.now new.now)
creates_keeps = creates keeps_create first_schema book_schema (record keeping { tree = 0 }) 9
    keeps_defined keeps_is keeps_whole keeps_made refl refl
