-- A table or index passes its test exactly if it equals the declared one.
use Rattle.std.proofs.Common.{◌≡◌, ◌↔◌, ◌==◌, ◌&&◌, ℕ, Bool, true, false, not, List, [], ◌∷◌, map}
use Rattle.std.proofs.Common.{Option, Some, None, bytes_eq, codes, refl, sym, ap, ap₂, subst, ◌∙◌}
use Rattle.std.proofs.Common.{true≢false, arith}
use Rattle.sqlite.specs.Table.{Table}
use Rattle.sqlite.specs.declared.types.Value.{Value}
use Rattle.sqlite.specs.declared.types.Value.TheVariants.{Null, Int, Real, Text, Blob}
use Rattle.sqlite_schema.specs.declared.schema.Action.{Action}
use Rattle.sqlite_schema.specs.declared.schema.Action.TheVariants.{NoAction, Restrict, Cascade}
use Rattle.sqlite_schema.specs.declared.schema.Action.TheVariants.{SetNull, SetDefault}
use Rattle.sqlite_schema.specs.declared.schema.Column.{Column}
use Rattle.sqlite_schema.specs.declared.schema.Index.{Index}
use Rattle.sqlite_schema.specs.declared.schema.Kind.{Kind}
use Rattle.sqlite_schema.specs.declared.schema.Kind.TheVariants as kinds
use Rattle.sqlite_schema.specs.declared.schema.Reference.{Reference}
use Rattle.sqlite_value.specs.declared.keys.Collation.{Collation}
use Rattle.sqlite_value.specs.declared.keys.Collation.TheVariants.{Binary, NoCase, RTrim}
use Rattle.sqlite_value.specs.declared.keys.Order.{Order}
use Rattle.base_types.proofs.TextLemmas.{same_text}
use Rattle.store_tables.specs.Tables.{table_of, book_reference, key_index}
use Rattle.store_tables.proofs.KeyedRows.{text_itself}
use Rattle.std.proofs.lemmas.Bool.{and_parts}
use Rattle.std.proofs.lemmas.List.{map-id}
use Rattle.store_schema.specs.internal.SchemaTests.{all_match, are_keys, are_places, columns_of}
use Rattle.store_schema.specs.internal.SchemaTests.{is_binary, is_column, has_id_key, is_index}
use Rattle.store_schema.specs.internal.SchemaTests.{is_integer, has_column_kind, is_no_action}
use Rattle.store_schema.specs.internal.SchemaTests.{is_null, is_only_name, is_plain_order}
use Rattle.store_schema.specs.internal.SchemaTests.{is_reference, is_text, keys_of, IsTable}
use Rattle.store_schema.specs.declared.forms.ColumnForm.{ColumnForm}
use Rattle.store_schema.specs.declared.forms.ColumnForm.TheVariants.{Number, RequiredText}
use Rattle.store_schema.specs.declared.forms.ColumnForm.TheVariants.{NullableText, RowId}
use Rattle.store_schema.specs.declared.forms.IndexForm.{IndexForm}
use Rattle.store_schema.specs.declared.forms.TableForm.{TableForm}

-- ---- texts, numbers and booleans

same_number : (a b : ℕ) → (a == b) ≡ true → a ≡ b
same_number a b h = grind arith

number_itself : (a : ℕ) → (a == a) ≡ true
number_itself a = grind arith

false_from : (b : Bool) → not b ≡ true → b ≡ false
false_from true h = absurd (true≢false (sym h))
false_from false h = refl

-- ---- lists

module _ {F X : Type 0} (is : F → X → Bool) (form_of : F → X) where
  pub all_as : ((f : F) (x : X) → is f x ≡ true → x ≡ form_of f) → (fs : List F) (xs : List X)
      → all_match is fs xs ≡ true → xs ≡ map form_of fs
  all_as from [] [] h = refl
  all_as from [] (x ∷ xs) h = absurd (true≢false (sym h))
  all_as from (f ∷ fs) [] h = absurd (true≢false (sym h))
  all_as from (f ∷ fs) (x ∷ xs) h = let parts = and_parts (is f x) (all_match is fs xs) h in
      ap₂ (λ a l. a ∷ l) (from f x parts.0) (all_as from fs xs parts.1)

  pub all_itself : ((f : F) → is f (form_of f) ≡ true) → (fs : List F)
      → all_match is fs (map form_of fs) ≡ true
  all_itself own [] = refl
  all_itself own (f ∷ fs) = ap₂ (λ s t. s && t) (own f) (all_itself own fs)

-- ---- places

places_is : (own places : List ℕ) → are_places own places ≡ true → places ≡ own
places_is own places h = all_as (λ (o p : ℕ). o == p) (λ o. o) (λ o p e. sym (same_number o p e))
    own places h ∙ map-id own

places_itself : (own : List ℕ) → are_places own own ≡ true
places_itself own = ap (are_places own) (sym (map-id own))
    ∙ all_itself (λ (o p : ℕ). o == p) (λ o. o) number_itself own

keys_is : (own keys : List (List ℕ)) → are_keys own keys ≡ true → keys ≡ own
keys_is own keys h = all_as are_places (λ o. o) places_is own keys h ∙ map-id own

keys_itself : (own : List (List ℕ)) → are_keys own own ≡ true
keys_itself own = ap (are_keys own) (sym (map-id own))
    ∙ all_itself are_places (λ o. o) places_itself own

only_is : (own : List ℕ) (names : List (List ℕ)) → is_only_name own names ≡ true → names ≡ own ∷ []
only_is own [] h = absurd (true≢false (sym h))
only_is own (name ∷ []) h = ap (λ n. n ∷ []) (same_text name own h)
only_is own (name ∷ more ∷ names) h = absurd (true≢false (sym h))

-- ---- columns

integer_is : (k : Kind) → is_integer k ≡ true → k ≡ kinds.Integer
integer_is kinds.Integer h = refl
integer_is kinds.Real h = absurd (true≢false (sym h))
integer_is kinds.Text h = absurd (true≢false (sym h))
integer_is kinds.Blob h = absurd (true≢false (sym h))
integer_is kinds.Any h = absurd (true≢false (sym h))

text_is : (k : Kind) → is_text k ≡ true → k ≡ kinds.Text
text_is kinds.Integer h = absurd (true≢false (sym h))
text_is kinds.Real h = absurd (true≢false (sym h))
text_is kinds.Text h = refl
text_is kinds.Blob h = absurd (true≢false (sym h))
text_is kinds.Any h = absurd (true≢false (sym h))

null_is : (v : Value) → is_null v ≡ true → v ≡ Null
null_is Null h = refl
null_is (Int n) h = absurd (true≢false (sym h))
null_is (Real x) h = absurd (true≢false (sym h))
null_is (Text t) h = absurd (true≢false (sym h))
null_is (Blob b) h = absurd (true≢false (sym h))

binary_is : (c : Collation) → is_binary c ≡ true → c ≡ Binary
binary_is Binary h = refl
binary_is NoCase h = absurd (true≢false (sym h))
binary_is RTrim h = absurd (true≢false (sym h))

abbrev pub kind_of : ColumnForm → Kind
kind_of Number = kinds.Integer
kind_of RequiredText = kinds.Text
kind_of NullableText = kinds.Text
kind_of RowId = kinds.Integer

abbrev pub never_null : ColumnForm → Bool
never_null Number = true
never_null RequiredText = true
never_null NullableText = false
never_null RowId = false

kept_is : (cell : ColumnForm) (k : Kind) (n : Bool) → has_column_kind cell k n ≡ true
    → (k ≡ kind_of cell) × (n ≡ never_null cell)
kept_is Number k n h = let parts = and_parts (is_integer k) n h in (integer_is k parts.0, parts.1)
kept_is RequiredText k n h = let parts = and_parts (is_text k) n h in (text_is k parts.0, parts.1)
kept_is NullableText k n h = let parts = and_parts (is_text k) (not n) h in
    (text_is k parts.0, false_from n parts.1)
kept_is RowId k n h = let parts = and_parts (is_integer k) (not n) h in
    (integer_is k parts.0, false_from n parts.1)

kept_itself : (cell : ColumnForm) → has_column_kind cell (kind_of cell) (never_null cell) ≡ true
kept_itself Number = refl
kept_itself RequiredText = refl
kept_itself NullableText = refl
kept_itself RowId = refl

abbrev pub column_of : List ℕ × ColumnForm → Column
column_of form = record {
  name = form.0;
  kind = kind_of form.1;
  is_strict = true;
  not_null = never_null form.1;
  default = Null;
  collation = Binary;
}

column_is : (form : List ℕ × ColumnForm) (c : Column) → is_column form c ≡ true → c ≡ column_of form
column_is form c h =
    let a = and_parts (bytes_eq c.name form.0) _ h in
    let b = and_parts (has_column_kind form.1 c.kind c.not_null) _ a.1 in
    let d = and_parts c.is_strict _ b.1 in
    let e = and_parts (is_null c.default) _ d.1 in
    let name = same_text c.name form.0 a.0 in
    let kept = kept_is form.1 c.kind c.not_null b.0 in
    let default = null_is c.default e.0 in
    let collation = binary_is c.collation e.1 in
    λ i. record {
      name = name i;
      kind = kept.0 i;
      is_strict = d.0 i;
      not_null = kept.1 i;
      default = default i;
      collation = collation i;
    }

column_itself : (form : List ℕ × ColumnForm) → is_column form (column_of form) ≡ true
column_itself form = ap₂ (λ s t. s && (t && true)) (text_itself form.0) (kept_itself form.1)

-- ---- orders and the first column

order_is : (key : List ℕ) (o : Order) → is_plain_order key o ≡ true → o ≡ record { digits = 0 }
order_is key o h = let e = same_number o.digits 0 h in λ i. record { digits = e i }

abbrev pub first_of : Bool → Option ℕ
first_of true = Some 0
first_of false = None

first_is : (has : Bool) (k : Option ℕ) → has_id_key has k ≡ true → k ≡ first_of has
first_is true None h = absurd (true≢false (sym h))
first_is false None h = refl
first_is true (Some c) h = ap Some (same_number c 0 h)
first_is false (Some c) h = absurd (true≢false (sym h))

first_itself : (has : Bool) → has_id_key has (first_of has) ≡ true
first_itself true = refl
first_itself false = refl

-- ---- references

no_action_is : (a : Action) → is_no_action a ≡ true → a ≡ NoAction
no_action_is NoAction h = refl
no_action_is Restrict h = absurd (true≢false (sym h))
no_action_is Cascade h = absurd (true≢false (sym h))
no_action_is SetNull h = absurd (true≢false (sym h))
no_action_is SetDefault h = absurd (true≢false (sym h))

reference_is : (column : ℕ) (r : Reference) → is_reference column r ≡ true
    → r ≡ book_reference column
reference_is column r h =
    let a = and_parts (are_places (column ∷ []) r.columns) _ h in
    let b = and_parts (bytes_eq r.parent (codes "book")) _ a.1 in
    let d = and_parts (is_only_name (codes "id") r.parent_columns) _ b.1 in
    let e = and_parts (is_no_action r.on_delete) _ d.1 in
    let f = and_parts (is_no_action r.on_update) _ e.1 in
    let columns = places_is (column ∷ []) r.columns a.0 in
    let parent = same_text r.parent (codes "book") b.0 in
    let names = only_is (codes "id") r.parent_columns d.0 in
    let on_delete = no_action_is r.on_delete e.0 in
    let on_update = no_action_is r.on_update f.0 in
    let deferred = false_from r.is_deferred f.1 in
    λ i. record {
      columns = columns i;
      parent = parent i;
      parent_columns = names i;
      on_delete = on_delete i;
      on_update = on_update i;
      is_deferred = deferred i;
    }

reference_itself : (column : ℕ) → is_reference column (book_reference column) ≡ true
reference_itself column = ap (λ s. s && true) (places_itself (column ∷ []))

-- ---- tables

abbrev pub plain_order : List ℕ → Order
plain_order key = record { digits = 0 }

-- the table that the form describes
abbrev pub table_as : TableForm → Table
table_as form = record (table_of form.name.now form.tree (map column_of (columns_of form))) {
  key = first_of form.has_id;
  primary = form.primary.now;
  uniques = keys_of form;
  orders = map plain_order (keys_of form);
  references = map book_reference form.to_books.now;
}

pub table_is : (form : TableForm) (t : Table) → IsTable form t → t ≡ table_as form
table_is form t h =
    let name = same_text t.name form.name.now h.name_is in
    let tree = same_number t.tree form.tree h.tree_is in
    let columns = all_as is_column column_of column_is (columns_of form) t.columns h.columns_are in
    let key = first_is form.has_id t.key h.key_is in
    let primary = places_is form.primary.now t.primary h.primary_is in
    let uniques = keys_is (keys_of form) t.uniques h.uniques_are in
    let orders = all_as is_plain_order plain_order order_is (keys_of form) t.orders h.orders_are in
    let references = all_as is_reference book_reference reference_is form.to_books.now t.references
    h.references_are in
    let stamps = h.plain.stamps in
    λ i. record {
      name = name i;
      tree = tree i;
      columns = columns i;
      key = key i;
      primary = primary i;
      uniques = uniques i;
      orders = orders i;
      checks = h.plain.checks i;
      references = references i;
      computed = h.plain.computed i;
      stamps = record {
        places = stamps.places i;
        terms = stamps.terms i;
        formats = stamps.formats i;
      };
      is_counted = h.plain.counted i;
    }

pub table_itself : (form : TableForm) → IsTable form (table_as form)
table_itself form = record {
  name_is = text_itself form.name.now;
  tree_is = number_itself form.tree;
  columns_are = all_itself is_column column_of column_itself (columns_of form);
  key_is = first_itself form.has_id;
  primary_is = places_itself form.primary.now;
  uniques_are = keys_itself (keys_of form);
  orders_are = all_itself is_plain_order plain_order (λ key. refl) (keys_of form);
  references_are = all_itself is_reference book_reference reference_itself form.to_books.now;
  plain = record {
    checks = refl;
    computed = refl;
    stamps = record {
      places = refl;
      terms = refl;
      formats = refl;
    };
    counted = refl;
  };
}

-- the test of a form accepts exactly its table
pub table_is_decided : (form : TableForm) (t wanted : Table) (outcome : Bool)
    → table_as form ≡ wanted → ((outcome ≡ true) ↔ IsTable form t) → (outcome ≡ true) ↔ (t ≡ wanted)
table_is_decided form t wanted outcome same h = (
  λ yes. table_is form t (h.0 yes)
      ∙ same,
  λ e. h.1 (subst (IsTable form) (same ∙ sym e) (table_itself form)),
)

-- ---- indexes

abbrev pub index_as : IndexForm → Index
index_as form = key_index form.name.now form.tree form.table form.columns.now

index_is : (form : IndexForm) (x : Index) → is_index form x ≡ true → x ≡ index_as form
index_is form x h =
    let a = and_parts (bytes_eq x.name form.name.now) _ h in
    let b = and_parts (x.tree == form.tree) _ a.1 in
    let d = and_parts (x.table == form.table) _ b.1 in
    let e = and_parts (are_places form.columns.now x.columns) _ d.1 in
    let f = and_parts (x.order.digits == 0) _ e.1 in
    let name = same_text x.name form.name.now a.0 in
    let tree = same_number x.tree form.tree b.0 in
    let table = same_number x.table form.table d.0 in
    let columns = places_is form.columns.now x.columns e.0 in
    let digits = same_number x.order.digits 0 f.0 in
    λ i. record {
      name = name i;
      tree = tree i;
      table = table i;
      columns = columns i;
      order = record { digits = digits i };
      is_unique = f.1 i;
    }

index_itself : (form : IndexForm) → is_index form (index_as form) ≡ true
index_itself form =
    ap₂ (λ s t. s && t) (text_itself form.name.now) (ap₂ (λ s t. s && t) (number_itself form.tree)
    (ap₂ (λ s t. s && t) (number_itself form.table)
    (ap (λ s. s && true) (places_itself form.columns.now))))

pub indexes_are_decided : (forms : List IndexForm) (xs wanted : List Index) (outcome : Bool)
    → map index_as forms ≡ wanted → outcome ≡ all_match is_index forms xs
    → (outcome ≡ true) ↔ (xs ≡ wanted)
indexes_are_decided forms xs wanted outcome same h = (
  λ yes. all_as is_index index_as index_is forms xs (sym h ∙ yes) ∙ same,
  λ e. h ∙ ap (all_match is_index forms) (e ∙ sym same)
      ∙ all_itself is_index index_as index_itself forms,
)
