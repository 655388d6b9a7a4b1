-- The tests of a declared table or index against its form.
use Rattle.std.specs.Prelude.{◌≡◌, ◌==◌, ◌&&◌, ℕ, Bool, true, false, not, List, [], ◌∷◌, map}
use Rattle.std.specs.Prelude.{Option, Some, None, bytes_eq, codes}
use Rattle.sqlite.specs.Table.{Table}
use Rattle.sqlite.specs.declared.types.Value.{Value}
use Rattle.sqlite.specs.declared.types.Value.TheVariants.{Null, Int, Real, Text, Blob}
use Rattle.sqlite_schema.specs.declared.schema.Action.{Action}
use Rattle.sqlite_schema.specs.declared.schema.Action.TheVariants.{NoAction, Restrict, Cascade}
use Rattle.sqlite_schema.specs.declared.schema.Action.TheVariants.{SetNull, SetDefault}
use Rattle.sqlite_schema.specs.declared.schema.Column.{Column}
use Rattle.sqlite_schema.specs.declared.schema.Index.{Index}
use Rattle.sqlite_schema.specs.declared.schema.Kind.{Kind}
use Rattle.sqlite_schema.specs.declared.schema.Kind.TheVariants as kinds
use Rattle.sqlite_schema.specs.declared.schema.Reference.{Reference}
use Rattle.sqlite_schema.specs.declared.schema.Stamps.{Stamps}
use Rattle.sqlite_value.specs.declared.keys.Collation.{Collation}
use Rattle.sqlite_value.specs.declared.keys.Collation.TheVariants.{Binary, NoCase, RTrim}
use Rattle.sqlite_value.specs.declared.keys.Order.{Order}
use Rattle.store_schema.specs.declared.forms.ColumnForm.{ColumnForm}
use Rattle.store_schema.specs.declared.forms.ColumnForm.TheVariants.{Number, RequiredText}
use Rattle.store_schema.specs.declared.forms.ColumnForm.TheVariants.{NullableText, RowId}
use Rattle.store_schema.specs.declared.forms.IndexForm.{IndexForm}
use Rattle.store_schema.specs.declared.forms.TableForm.{TableForm}

-- ---- lists

-- as many items as forms, and each item passes the test of its form
abbrev pub all_match : {F X : Type 0} → (F → X → Bool) → List F → List X → Bool
all_match is [] [] = true
all_match is [] (item ∷ items) = false
all_match is (form ∷ forms) [] = false
all_match is (form ∷ forms) (item ∷ items) = is form item && all_match is forms items

-- ---- columns

abbrev pub is_integer : Kind → Bool
is_integer kinds.Integer = true
is_integer kinds.Real = false
is_integer kinds.Text = false
is_integer kinds.Blob = false
is_integer kinds.Any = false

abbrev pub is_text : Kind → Bool
is_text kinds.Integer = false
is_text kinds.Real = false
is_text kinds.Text = true
is_text kinds.Blob = false
is_text kinds.Any = false

abbrev pub is_null : Value → Bool
is_null Null = true
is_null (Int n) = false
is_null (Real x) = false
is_null (Text t) = false
is_null (Blob b) = false

abbrev pub is_binary : Collation → Bool
is_binary Binary = true
is_binary NoCase = false
is_binary RTrim = false

-- a column of this kind, nullable or not, has the type
abbrev pub has_column_kind : ColumnForm → Kind → Bool → Bool
has_column_kind Number kind not_null = is_integer kind && not_null
has_column_kind RequiredText kind not_null = is_text kind && not_null
has_column_kind NullableText kind not_null = is_text kind && not not_null
has_column_kind RowId kind not_null = is_integer kind && not not_null

-- The column has the name and the type. It is strict, has no default, and is compared in byte
-- order.
abbrev pub is_column : List ℕ × ColumnForm → Column → Bool
is_column form c =
    bytes_eq c.name form.0 && (has_column_kind form.1 c.kind c.not_null
    && (c.is_strict && (is_null c.default && is_binary c.collation)))

-- ---- column numbers and names

abbrev pub are_places : List ℕ → List ℕ → Bool
are_places = all_match (λ own place. own == place)

abbrev pub are_keys : List (List ℕ) → List (List ℕ) → Bool
are_keys = all_match are_places

-- the list is this name alone
abbrev pub is_only_name : List ℕ → List (List ℕ) → Bool
is_only_name own [] = false
is_only_name own (name ∷ []) = bytes_eq name own
is_only_name own (name ∷ more ∷ names) = false

-- the key is ascending in byte order
abbrev pub is_plain_order : List ℕ → Order → Bool
is_plain_order key order = order.digits == 0

-- the row id is the first column, or no column, as the form states
abbrev pub has_id_key : Bool → Option ℕ → Bool
has_id_key has_id None = not has_id
has_id_key has_id (Some column) = has_id && (column == 0)

-- ---- references

abbrev pub is_no_action : Action → Bool
is_no_action NoAction = true
is_no_action Restrict = false
is_no_action Cascade = false
is_no_action SetNull = false
is_no_action SetDefault = false

-- the column references the id of a book
abbrev pub is_reference : ℕ → Reference → Bool
is_reference column r =
    are_places (column ∷ []) r.columns && (bytes_eq r.parent (codes "book")
    && (is_only_name (codes "id") r.parent_columns && (is_no_action r.on_delete
    && (is_no_action r.on_update && not r.is_deferred))))

-- ---- tables

-- no default uses the current time
pub record HasNoStamps (s : Stamps) : Type 0 where
  pub places : s.places ≡ []
  pub terms : s.terms ≡ []
  pub formats : s.formats ≡ []

-- no check, no computed default and no autoincrement
pub record IsPlainTable (t : Table) : Type 0 where
  pub checks : t.checks ≡ []
  pub computed : t.computed ≡ []
  pub stamps : HasNoStamps t.stamps
  pub counted : t.is_counted ≡ false

-- the columns of a form: names and types
abbrev pub columns_of : TableForm → List (List ℕ × ColumnForm)
columns_of form = map (λ c. (c.0.now, c.1)) form.columns.now

-- the column numbers of each key of a form
abbrev pub keys_of : TableForm → List (List ℕ)
keys_of form = map (λ key. key.now) form.uniques.now

pub record IsTable (form : TableForm) (t : Table) : Type 0 where
  pub name_is : bytes_eq t.name form.name.now ≡ true
  pub tree_is : (t.tree == form.tree) ≡ true
  pub columns_are : all_match is_column (columns_of form) t.columns ≡ true
  pub key_is : has_id_key form.has_id t.key ≡ true
  pub primary_is : are_places form.primary.now t.primary ≡ true
  pub uniques_are : are_keys (keys_of form) t.uniques ≡ true
  pub orders_are : all_match is_plain_order (keys_of form) t.orders ≡ true
  pub references_are : all_match is_reference form.to_books.now t.references ≡ true
  pub plain : IsPlainTable t

-- ---- indexes

abbrev pub is_index : IndexForm → Index → Bool
is_index form i =
    bytes_eq i.name form.name.now && ((i.tree == form.tree) && ((i.table == form.table)
    && (are_places form.columns.now i.columns && ((i.order.digits == 0) && i.is_unique))))
