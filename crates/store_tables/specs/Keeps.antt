-- The rows of the table `keeping`, one for each book: its keep, which is how many removed members
-- it remembers at most.
use Rattle.std.specs.Prelude.{◌≡◌, ℤ, Bool, false, List, [], ◌∷◌, map}
use Rattle.std.specs.Ordering.{int_eq}
use Rattle.std.specs.List.Sorted.{IsPermutation}
use Rattle.sqlite.specs.declared.types.Value.TheVariants.{Null, Int}
use Rattle.sqlite.specs.Order.{Row, column}
use Rattle.sqlite.specs.State.{State}
use Rattle.sqlite_trees.specs.Tree.{IsAscending}
use Rattle.store_tables.specs.QueryResults.{AddsRow}
use Rattle.store_tables.specs.StatementEffects.{StoredTable}
use Rattle.store_tables.specs.Tables.{keep_tree}

-- the book's id is the row id
pub record KeepRow : Type 0 where
  pub book : ℤ
  pub keep : ℤ

-- ---- the contents of the table

-- a keep as a stored row: the id comes first, and its own column is null
abbrev pub keep_row : KeepRow → Row
keep_row k = Int k.book ∷ Null ∷ Int k.keep ∷ []

-- the columns of a row that are read; a missing column is null
abbrev pub keep_cells : Row → Row
keep_cells r = column r 0 ∷ Null ∷ column r 2 ∷ []

-- the rows are those of the keeps, in any order
abbrev pub HoldKeeps : List Row → List KeepRow → Type 0
HoldKeeps rows keeps = IsPermutation (map keep_row keeps) (map keep_cells rows)

abbrev pub is_keep_of : ℤ → KeepRow → Bool
is_keep_of book k = int_eq k.book book

-- no two keeps belong to one book
abbrev pub AreKeeps : List KeepRow → Type 0
AreKeeps = IsAscending (λ a b. int_eq a.book b.book ≡ false)

abbrev pub keep_table : StoredTable KeepRow
keep_table = record { tree = keep_tree; Hold = HoldKeeps; AreDistinct = AreKeeps }

-- ---- result rows

abbrev pub keep_shown : KeepRow → Row
keep_shown k = Int k.keep ∷ []

-- the result row of any row of the table
abbrev pub keep_listed : Row → Row
keep_listed r = column r 0 ∷ column r 2 ∷ []

-- ---- the effect of a statement

abbrev pub keep_row_of : ℤ → ℤ → KeepRow
keep_row_of book keep = record { book = book; keep = keep }

-- the table holds the old keeps and the book's keep
abbrev pub AddsKeep : State → ℤ → ℤ → List KeepRow → Type 0
AddsKeep new book keep keeps =
    AddsRow HoldKeeps (λ k. k.book) (keep_row_of book keep) keeps (new.now.trees keep_tree)
