-- The rows of the table `import_key`, one for each import that a book has stored under a key.
use Rattle.std.specs.Prelude.{◌≡◌, ℕ, ℤ, Bool, false, ◌&&◌, List, [], ◌∷◌, map, bytes_eq}
use Rattle.std.specs.Ordering.{int_eq}
use Rattle.std.specs.List.Sorted.{IsPermutation}
use Rattle.sqlite.specs.declared.types.Value.TheVariants.{Int, Text}
use Rattle.sqlite.specs.Order.{Row, column}
use Rattle.sqlite.specs.State.{State}
use Rattle.sqlite_trees.specs.Tree.{IsAscending}
use Rattle.store_tables.specs.QueryResults.{AddsRow}
use Rattle.store_tables.specs.StatementEffects.{StoredTable}
use Rattle.store_tables.specs.Tables.{import_tree}

-- the result of an import and the number of its last change; the id is the row id
pub record ImportRow : Type 0 where
  pub id : ℤ
  pub book : ℤ
  pub key : List ℕ
  pub added : ℤ
  pub edited : ℤ
  pub same : ℤ
  pub number : ℤ

-- ---- the contents of the table

-- an import as a stored row
abbrev pub import_row : ImportRow → Row
import_row i =
    Int i.id ∷ Int i.book ∷ Text i.key ∷ Int i.added ∷ Int i.edited ∷ Int i.same ∷ Int i.number ∷ []

-- the columns of a row; a missing column is null
abbrev pub import_cells : Row → Row
import_cells r =
    column r 0 ∷ column r 1 ∷ column r 2 ∷ column r 3 ∷ column r 4 ∷ column r 5 ∷ column r 6 ∷ []

-- the rows are those of the imports, in any order
abbrev pub HoldImports : List Row → List ImportRow → Type 0
HoldImports rows imports = IsPermutation (map import_row imports) (map import_cells rows)

-- the import has the key in the book
abbrev pub has_key : ℤ → List ℕ → ImportRow → Bool
has_key book key i = int_eq i.book book && bytes_eq i.key key

-- no two imports share an id, or a key in one book
abbrev pub AreImports : List ImportRow → Type 0
AreImports = IsAscending (λ a b. (int_eq a.id b.id ≡ false) × (has_key a.book a.key b ≡ false))

abbrev pub import_table : StoredTable ImportRow
import_table = record { tree = import_tree; Hold = HoldImports; AreDistinct = AreImports }

-- ---- result rows

abbrev pub import_shown : ImportRow → Row
import_shown i = Int i.added ∷ Int i.edited ∷ Int i.same ∷ Int i.number ∷ []

-- ---- the effect of a statement

abbrev pub new_import_row : ℤ → ℤ → List ℕ → ℤ → ℤ → ℤ → ℤ → ImportRow
new_import_row id book key added edited same number = record {
  id = id;
  book = book;
  key = key;
  added = added;
  edited = edited;
  same = same;
  number = number;
}

-- the table holds the old imports and the new one, under an unused id
abbrev pub AddsImport : State → ℤ → List ℕ → ℤ → ℤ → ℤ → ℤ → List ImportRow → Type 0
AddsImport new book key added edited same number imports = (id : ℤ) ×
    AddsRow HoldImports (λ i. i.id) (new_import_row id book key added edited same number) imports
    (new.now.trees import_tree)
