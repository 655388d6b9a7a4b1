-- The cause of an error of a CREATE TABLE. The text and the tables before it are written out, so
-- each test that could refuse the new table is computed.
use Rattle.std.proofs.Common.{◌≡◌, ◌≢◌, inl, inr, ℕ, ◌≤◌, ◌<◌, ◌+◌, ◌*◌, ◌^◌, true, false, nat_lt}
use Rattle.std.proofs.Common.{List, [], ◌∷◌, length, Option, Some, None, Ok, Err, Result, IfErr, IsSome}
use Rattle.std.proofs.Common.{IsUtf8, zero, suc, codes, refl, sym, ap, subst, ◌∙◌, true≢false, arith}
use Rattle.std.proofs.lemmas.Bool.{and_parts, ltb-true}
use Rattle.std.proofs.lemmas.Str.{IsUtf8-from_ascii}
use Rattle.std.specs.List.{list_all, list_any}
use Rattle.std.specs.Prelude.{MatchBool, IsAscii}
use lib.Ieee.{is_nan, lt}
use Rattle.sqlite.specs.Change.{created}
use Rattle.sqlite.specs.Command.TheVariants.{CreateTable}
use Rattle.sqlite.specs.Compile.{table_defined_by}
use Rattle.sqlite.specs.Does.{Does, MakesTable, lacks_sequence, sequence_text}
use Rattle.sqlite.specs.Listing.{understood}
use Rattle.sqlite.specs.Order.{value_cmp}
use Rattle.sqlite.specs.Rows.{Gives}
use Rattle.sqlite.specs.Schema.{Schema}
use Rattle.sqlite.specs.State.{State, ExecutesInside, mode_of}
use Rattle.sqlite.specs.Table.{Table}
use Rattle.sqlite.specs.Tree.{Trees}
use Rattle.sqlite.specs.declared.error.Error.{Error}
use Rattle.sqlite.specs.declared.error.Error.TheVariants.{SqliteFailure}
use Rattle.sqlite.specs.declared.error.ErrorCode.TheVariants.{OutOfMemory}
use Rattle.sqlite.specs.declared.run.Mode.{Mode}
use Rattle.sqlite.specs.declared.types.Value.TheVariants.{Text}
use Rattle.sqlite.proofs.Callers.{command_of, statement_of}
use Rattle.sqlite_catalog.specs.Calls.{CreatesTable, IsLongTable, RefusesTable}
use Rattle.sqlite_catalog.specs.Change.{automatics, is_reserved, is_used, next_tree}
use Rattle.sqlite_catalog.specs.Listing.{is_fit, is_formed}
use Rattle.sqlite_catalog.specs.declared.error.Refusal.{Refusal}
use Rattle.sqlite_catalog.specs.declared.error.Refusal.TheVariants.{Invalid, NameTaken, BadName}
use Rattle.sqlite_catalog.specs.declared.error.Refusal.TheVariants.{TooBig, BadKey, BadText, Violates}
use Rattle.sqlite_rules.proofs.ListLemmas.{some_from}
use Rattle.sqlite_schema.specs.declared.schema.Index.{Index}
use Rattle.sqlite_schema.specs.Rules.{index_reals, table_reals}
use Rattle.sqlite_tied.specs.Compute.{everything}
use Rattle.sqlite_trees.specs.Sound.{begins, fits_kind, is_free_name}
use Rattle.sqlite_trees.specs.Sound as sound
use Rattle.store_tables.specs.Failures.{HasOutsideCause}
use Rattle.store_tables.specs.SchemaCreation.{empty_schema, first_schema, with_books, with_members}
use Rattle.store_tables.specs.SchemaCreation.{with_meta}
use Rattle.store_tables.specs.Tables.{book, book_schema, import_key, keeping, member, meta}
use Rattle.store_tables.proofs.CreateTableLemmas.{books_create, books_defined, books_is, books_made}
use Rattle.store_tables.proofs.CreateTableLemmas.{books_whole, imports_create, imports_defined}
use Rattle.store_tables.proofs.CreateTableLemmas.{imports_is, imports_made, imports_whole}
use Rattle.store_tables.proofs.CreateTableLemmas.{keeps_create, keeps_defined, keeps_is, keeps_made}
use Rattle.store_tables.proofs.CreateTableLemmas.{keeps_whole, members_create, members_defined}
use Rattle.store_tables.proofs.CreateTableLemmas.{members_is, members_made, members_whole}
use Rattle.store_tables.proofs.CreateTableLemmas.{meta_create, meta_defined, meta_is, meta_made}
use Rattle.store_tables.proofs.CreateTableLemmas.{meta_whole}
use Rattle.store_tables.proofs.EditLemmas.{never_stops, stops}
use Rattle.store_tables.proofs.FailureLemmas.{IsWhole}
use Rattle.store_tables.proofs.PutLemmas.{same_value}
use Rattle.store_tables.proofs.StorableLemmas.{no_reals}
use Rattle.store_tables.proofs.Texts.{formats_of, returning_of}
use Rattle.store_tables.proofs.WriteFailures.{execute_fails, shows_in}

-- ---- text in ASCII

all_ascii : (text : List ℕ) → list_all (λ b. nat_lt b 128) text ≡ true → IsAscii text
all_ascii [] h i = omega (arith)
all_ascii (b ∷ bs) h zero = ltb-true b 128 (and_parts _ _ h).0
all_ascii (b ∷ bs) h (suc i) = all_ascii bs (and_parts _ _ h).1 i

in_ascii : (text : List ℕ) → list_all (λ b. nat_lt b 128) text ≡ true → IsUtf8 text
in_ascii text h = IsUtf8-from_ascii text (all_ascii text h)

-- ---- a table that nothing refuses

-- the text is one statement without parameters, which shows no rows
record IsPlainText (before : Schema) (sql : List ℕ) : Type 0 where
  returns : returning_of (understood before sql) ≡ None
  still : formats_of (understood before sql) ≡ []
  whole : IsWhole sql 0 (understood before sql)
  quiet : shows_in (understood before sql) ≡ false

-- no test refuses the table that the text defines, where the tables `before` are declared
record IsCreatable (before : Schema) (sql : List ℕ) (table : Table) : Type 0 where
  unused : is_used before table.name ≡ false
  apart : list_any (λ (i : Index). is_used before i.name) (automatics table 0 0 table.uniques)
      ≡ false
  unreserved : is_reserved table.name ≡ false
  formed : is_formed table ≡ true
  fit : is_fit (Text (codes "table")) (Text table.name) (Text table.name) (Text sql) ≡ true
  named : IsUtf8 table.name
  written : IsUtf8 sql
  few : next_tree before + length table.uniques < 100
  plain : table_reals table ≡ 0
  short : 2 * length table.name + length sql < 1000

module _ (before after : Schema) (sql : List ℕ) (table : Table)
    (defined : table_defined_by sql ≡ Ok table) (it : IsCreatable before sql table) where
  same : (t : Table) → table_defined_by sql ≡ Ok t → table ≡ t
  same t h = same_value (sym defined ∙ h)

  no_key_reals : (key : List ℕ) → index_reals (table_reals table) key ≡ 0
  no_key_reals key = ap (λ reals. index_reals reals key) it.plain ∙ no_reals key

  not_refused : (why : Refusal) → RefusesTable before sql why → ⊥
  not_refused (Invalid e) h = absurd (let e = sym defined ∙ h in cc)
  not_refused NameTaken (t, d, inl used) =
      true≢false (sym (subst (λ (t : Table). is_used before t.name ≡ true) (sym (same t d)) used)
      ∙ it.unused)
  not_refused NameTaken (t, d, inr (i, there, used)) =
      true≢false (sym (some_from (λ (i : Index). is_used before i.name)
      (automatics table 0 0 table.uniques) i
      (subst (λ (t : Table). Rattle.sqlite_rules.specs.Lists.Has (automatics t 0 0 t.uniques) i)
      (sym (same t d)) there) used) ∙ it.apart)
  not_refused BadName (t, d, inl bad) = bad (subst (λ (t : Table). IsUtf8 t.name) (same t d) it.named)
  not_refused BadName (t, d, inr (reserved, own)) =
      true≢false (sym (subst (λ (t : Table). is_reserved t.name ≡ true) (sym (same t d)) reserved)
      ∙ it.unreserved)
  not_refused TooBig (t, d, inl many) =
      let few = it.few in
      let these = subst (λ (t : Table). 65536 ≤ next_tree before + length t.uniques)
      (sym (same t d)) many in omega (arith, few, these)
  not_refused TooBig (t, d, inr (inl wide)) =
      let none = it.plain in
      let these = subst (λ (t : Table). 2 ^ 64 ≤ table_reals t) (sym (same t d)) wide in
      omega (arith, none, these)
  not_refused TooBig (t, d, inr (inr (key, there, wide))) =
      let none = no_key_reals key in
      let these = subst (λ (t : Table). 2 ^ 64 ≤ index_reals (table_reals t) key) (sym (same t d))
      wide in omega (arith, none, these)
  not_refused BadKey (t, d, bad) =
      true≢false (sym it.formed ∙ subst (λ (t : Table). is_formed t ≡ false) (sym (same t d)) bad)
  not_refused BadText (t, d, bad) =
      true≢false (sym it.fit ∙ subst (λ (t : Table). is_fit (Text (codes "table")) (Text t.name)
      (Text t.name) (Text sql) ≡ false) (sym (same t d)) bad)
  not_refused (Violates rule) h = h

  not_long : IsLongTable sql → ⊥
  not_long (t, d, long) =
      let short = it.short in
      let these = subst (λ (t : Table). 10 ^ 9 ≤ 2 * length t.name + length sql + 200)
      (sym (same t d)) long in omega (arith, short, these)

  makes : (db : Trees) (stop : Option Error)
      → MakesTable sql (record { schema = before; trees = db }) (Err stop) → ⊥
  makes db None h = not_long h
  makes db (Some e) (inl h) = h.0 it.written
  makes db (Some e) (inr h) = not_refused h.0 h.1

  module _ (made : created before table ≡ after) (uncounted : lacks_sequence after ≡ false)
      (is : command_of (understood before sql) ≡ CreateTable)
      (text : statement_of sql (understood before sql) ≡ sql) (plainly : IsPlainText before sql)
    where
      create_stops : (limit : Option ℕ) (mode : Mode) (db : Trees) (stop : Option Error)
          → Does limit mode [] (record { schema = before; trees = db })
          (statement_of sql (understood before sql)) None CreateTable (Err stop) → IsSome limit
      create_stops limit mode db stop did =
          let h = subst (λ t. Does limit mode [] (record { schema = before; trees = db }) t None
          CreateTable (Err stop)) text did in
          stops h
          (λ s k. stops k (λ s m. absurd (makes db s m)) (λ on.
          let c : CreatesTable before sql db on.0.schema on.0.trees = on.1 in
          let schema : on.0.schema ≡ after = c.is ∙ ap (created before) (sym (same c.table c.defined))
          ∙ made in
          never_stops on.0 s (subst (λ b. MatchBool b (MakesTable sequence_text on.0 (Err s))
          (Gives on.0 (Err s))) (ap lacks_sequence schema ∙ uncounted) on.2)))
          (λ on. never_stops _ stop on.2)

      create_fails : (old new : State) (r : Result ℕ Error) → old.now.schema ≡ before
          → ExecutesInside 0 sql [] old new r
          → IfErr r (λ e. e ≢ SqliteFailure OutOfMemory → HasOutsideCause old new)
      create_fails old new (Ok count) has h = tt
      create_fails old new (Err e) has h =
          execute_fails sql [] old new has CreateTable None is tt plainly.returns plainly.still
          plainly.whole (λ stop did. create_stops old.step_limit (mode_of old) old.now.trees stop did)
          plainly.quiet e h

-- a CREATE TABLE fails only for lack of memory or for an outside cause
abbrev pub CreationFails : List ℕ → Schema → Type 1
CreationFails sql before = (old new : State) (r : Result ℕ Error) → old.now.schema ≡ before
    → ExecutesInside 0 sql [] old new r
    → IfErr r (λ e. e ≢ SqliteFailure OutOfMemory → HasOutsideCause old new)

-- ---- the five tables

meta_text : IsPlainText empty_schema meta_create
unfolding understood everything
meta_text = record { returns = refl; still = refl; whole = (refl, refl); quiet = refl }

meta_asked : IsCreatable empty_schema meta_create meta
unfolding everything fits_kind is_free_name begins sound.same_name value_cmp is_nan lt
meta_asked = record {
  unused = refl;
  apart = refl;
  unreserved = refl;
  formed = refl;
  fit = refl;
  named = in_ascii _ refl;
  written = in_ascii _ refl;
  few = omega (arith);
  plain = refl;
  short = omega (arith);
}

pub meta_fails : CreationFails meta_create empty_schema
meta_fails = create_fails empty_schema with_meta meta_create meta meta_defined meta_asked meta_made
    refl meta_is.0 meta_whole meta_text

books_text : IsPlainText with_meta books_create
unfolding understood everything
books_text = record { returns = refl; still = refl; whole = (refl, refl); quiet = refl }

books_asked : IsCreatable with_meta books_create (record book { tree = 0 })
unfolding everything fits_kind is_free_name begins sound.same_name value_cmp is_nan lt
books_asked = record {
  unused = refl;
  apart = refl;
  unreserved = refl;
  formed = refl;
  fit = refl;
  named = in_ascii _ refl;
  written = in_ascii _ refl;
  few = omega (arith);
  plain = refl;
  short = omega (arith);
}

pub books_fails : CreationFails books_create with_meta
books_fails = create_fails with_meta with_books books_create (record book { tree = 0 })
    books_defined books_asked books_made refl books_is.0 books_whole books_text

members_text : IsPlainText with_books members_create
unfolding understood everything
members_text = record { returns = refl; still = refl; whole = (refl, refl); quiet = refl }

members_asked : IsCreatable with_books members_create (record member { tree = 0 })
unfolding everything fits_kind is_free_name begins sound.same_name value_cmp is_nan lt
members_asked = record {
  unused = refl;
  apart = refl;
  unreserved = refl;
  formed = refl;
  fit = refl;
  named = in_ascii _ refl;
  written = in_ascii _ refl;
  few = omega (arith);
  plain = refl;
  short = omega (arith);
}

pub members_fails : CreationFails members_create with_books
members_fails = create_fails with_books with_members members_create (record member { tree = 0 })
    members_defined members_asked members_made refl members_is.0 members_whole members_text

imports_text : IsPlainText with_members imports_create
unfolding understood everything
imports_text = record { returns = refl; still = refl; whole = (refl, refl); quiet = refl }

imports_asked : IsCreatable with_members imports_create (record import_key { tree = 0 })
unfolding everything fits_kind is_free_name begins sound.same_name value_cmp is_nan lt
imports_asked = record {
  unused = refl;
  apart = refl;
  unreserved = refl;
  formed = refl;
  fit = refl;
  named = in_ascii _ refl;
  written = in_ascii _ refl;
  few = omega (arith);
  plain = refl;
  short = omega (arith);
}

pub imports_fails : CreationFails imports_create with_members
imports_fails = create_fails with_members first_schema imports_create
    (record import_key { tree = 0 }) imports_defined imports_asked imports_made refl imports_is.0
    imports_whole imports_text

keeps_text : IsPlainText first_schema keeps_create
unfolding understood everything
keeps_text = record { returns = refl; still = refl; whole = (refl, refl); quiet = refl }

keeps_asked : IsCreatable first_schema keeps_create (record keeping { tree = 0 })
unfolding everything fits_kind is_free_name begins sound.same_name value_cmp is_nan lt
keeps_asked = record {
  unused = refl;
  apart = refl;
  unreserved = refl;
  formed = refl;
  fit = refl;
  named = in_ascii _ refl;
  written = in_ascii _ refl;
  few = omega (arith);
  plain = refl;
  short = omega (arith);
}

pub keeps_fails : CreationFails keeps_create first_schema
keeps_fails = create_fails first_schema book_schema keeps_create (record keeping { tree = 0 })
    keeps_defined keeps_asked keeps_made refl keeps_is.0 keeps_whole keeps_text
