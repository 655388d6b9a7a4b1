-- Rows read from whole tables.
use Rattle.std.proofs.Common.{◌≡◌, List, [], ◌∷◌, map, IsPermutation, refl, sym, ap₂, subst, ◌∙◌}
use Rattle.std.proofs.lemmas.List.Sorted.{IsPermutation-refl, IsPermutation-map, IsPermutation-sym}
use Rattle.sqlite.specs.declared.types.Value.TheVariants.{Null}
use Rattle.sqlite.specs.Effect.{Database}
use Rattle.sqlite.specs.Order.{Row}
use Rattle.sqlite.proofs.Callers.{one_permutation}
use Rattle.sqlite_trees.proofs.ListLemmas.{IsPermutation-same, map-map}
use Rattle.store_tables.specs.Books.{HoldBooks, book_row, book_cells, book_listed, book_shown}
use Rattle.store_tables.specs.Keeps.{HoldKeeps, keep_row, keep_cells, keep_listed}
use Rattle.store_tables.specs.Members.{HoldMembers}
use Rattle.store_tables.specs.Imports.{HoldImports}
use Rattle.store_tables.specs.Meta.{meta_listed, schema_row, schema_number}
use Rattle.store_tables.specs.Tables.{ObeyTables, book_schema}
use Rattle.store_rows.specs.OpenLaws.{ListedRowsAreHeld, ListsRows, NewTablesAreEmpty, keep_pair}
use Rattle.store_rows.specs.TableRows.{HoldsRows, TableRows}

-- a result row, with the null column after its id
abbrev with_null : Row → Row
with_null [] = []
with_null (id ∷ rest) = id ∷ Null ∷ rest

-- a table's row without the null column after its id
abbrev without_null : Row → Row
without_null [] = []
without_null (id ∷ []) = id ∷ []
without_null (id ∷ null ∷ rest) = id ∷ rest

-- the table holds the items of its result rows, with the null column
module _ {X : Type 0} (row shown : X → Row) (cells listed : Row → Row) (of_item : (x : X)
    → with_null (shown x) ≡ row x) (of_row : (r : Row) → with_null (listed r) ≡ cells r) where
  all_items : (xs : List X) → map (λ x. with_null (shown x)) xs ≡ map row xs
  all_items [] = refl
  all_items (x ∷ xs) = ap₂ (λ a l. a ∷ l) (of_item x) (all_items xs)

  all_rows : (rs : List Row) → map (λ r. with_null (listed r)) rs ≡ map cells rs
  all_rows [] = refl
  all_rows (r ∷ rs) = ap₂ (λ a l. a ∷ l) (of_row r) (all_rows rs)

  pub shown_held : (xs : List X) (rows : List Row) → IsPermutation (map listed rows) (map shown xs)
      → IsPermutation (map row xs) (map cells rows)
  shown_held xs rows h =
      subst (λ l. IsPermutation l (map cells rows)) (map-map with_null shown xs ∙ all_items xs)
      (subst (IsPermutation (map with_null (map shown xs))) (map-map with_null listed rows
      ∙ all_rows rows) (IsPermutation-sym _ _ (IsPermutation-map with_null _ _ h)))

-- and its result rows are those of the items that it holds
module _ {X : Type 0} (row shown : X → Row) (cells listed : Row → Row) (of_item : (x : X)
    → without_null (row x) ≡ shown x) (of_row : (r : Row) → without_null (cells r) ≡ listed r) where
  shown_items : (xs : List X) → map (λ x. without_null (row x)) xs ≡ map shown xs
  shown_items [] = refl
  shown_items (x ∷ xs) = ap₂ (λ a l. a ∷ l) (of_item x) (shown_items xs)

  shown_rows : (rs : List Row) → map (λ r. without_null (cells r)) rs ≡ map listed rs
  shown_rows [] = refl
  shown_rows (r ∷ rs) = ap₂ (λ a l. a ∷ l) (of_row r) (shown_rows rs)

  pub held_shown : (xs : List X) (rows : List Row) → IsPermutation (map row xs) (map cells rows)
      → IsPermutation (map listed rows) (map shown xs)
  held_shown xs rows h =
      subst (λ l. IsPermutation l (map shown xs)) (map-map without_null cells rows
      ∙ shown_rows rows)
      (subst (IsPermutation (map without_null (map cells rows))) (map-map without_null row xs
      ∙ shown_items xs) (IsPermutation-sym _ _ (IsPermutation-map without_null _ _ h)))

pub listed_held : (db : Database) (rows : TableRows) → db.schema ≡ book_schema → ObeyTables db.trees
    → ListsRows db rows → HoldsRows db rows
listed_held db rows schema obeys h = record {
  schema = schema;
  obeys = obeys;
  meta = one_permutation (schema_row schema_number) (map meta_listed (db.trees 0))
      (IsPermutation-sym _ _ h.meta);
  books = shown_held book_row book_shown book_cells book_listed (λ _. refl) (λ _. refl) rows.books
      (db.trees 2) h.books;
  members = IsPermutation-sym _ _ h.members;
  imports = IsPermutation-sym _ _ h.imports;
  keeps = shown_held keep_row keep_pair keep_cells keep_listed (λ _. refl) (λ _. refl) rows.keeps
      (db.trees 9) h.keeps;
}

held_listed : (db : Database) (rows : TableRows) → HoldsRows db rows → ListsRows db rows
held_listed db rows h = record {
  meta = IsPermutation-same (map meta_listed (db.trees 0)) (schema_row schema_number ∷ []) h.meta;
  books = held_shown book_row book_shown book_cells book_listed (λ _. refl) (λ _. refl) rows.books
      (db.trees 2) h.books;
  members = IsPermutation-sym _ _ h.members;
  imports = IsPermutation-sym _ _ h.imports;
  keeps = held_shown keep_row keep_pair keep_cells keep_listed (λ _. refl) (λ _. refl) rows.keeps
      (db.trees 9) h.keeps;
}

pub listed_rows_held : ListedRowsAreHeld
listed_rows_held db rows schema = (
  λ both. listed_held db rows schema both.0 both.1,
  λ held. (held.obeys, held_listed db rows held),
)

pub new_tables_empty : NewTablesAreEmpty
new_tables_empty db h = record {
  schema = h.schema;
  obeys = h.obeys;
  meta = h.meta;
  books = subst (λ t. HoldBooks t []) (sym h.books) (IsPermutation-refl []);
  members = subst (λ t. HoldMembers t []) (sym h.members) (IsPermutation-refl []);
  imports = subst (λ t. HoldImports t []) (sym h.imports) (IsPermutation-refl []);
  keeps = subst (λ t. HoldKeeps t []) (sym h.keeps) (IsPermutation-refl []);
}
