-- The rows of the table `book`, one for each book.
use Rattle.std.specs.Prelude.{◌≡◌, ◌+◌, ℕ, ℤ, pos, Bool, false, if◌then◌else◌, List, [], ◌∷◌, map}
use Rattle.std.specs.Prelude.{bytes_eq}
use Rattle.std.specs.declared.cmp.Ordering.{Ordering}
use Rattle.std.specs.Ordering.{int_eq}
use Rattle.base_types.specs.TextMaps.{text_cmp}
use Rattle.std.specs.List.Sorted.{IsPermutation}
use Rattle.sqlite.specs.declared.types.Value.TheVariants.{Null, Int, Text}
use Rattle.sqlite.specs.Order.{Row, column}
use Rattle.sqlite.specs.State.{State}
use Rattle.sqlite_trees.specs.Tree.{IsAscending}
use Rattle.store_tables.specs.QueryResults.{AddsRow}
use Rattle.store_tables.specs.StatementEffects.{StoredTable}
use Rattle.store_tables.specs.Tables.{book_tree}
use Rattle.store_tables.specs.declared.books.BookNumbers.{BookNumbers}

-- the nine number columns: the last change, the horizon and the counts
pub record Numbers : Type 0 where
  pub number : ℤ
  pub horizon : ℤ
  pub created : ℤ
  pub edited : ℤ
  pub imported : ℤ
  pub import_edited : ℤ
  pub moved_in : ℤ
  pub deleted : ℤ
  pub moved_out : ℤ

abbrev pub numbers : ℤ → ℤ → ℤ → ℤ → ℤ → ℤ → ℤ → ℤ → ℤ → Numbers
numbers number horizon created edited imported import_edited moved_in deleted moved_out = record {
  number = number;
  horizon = horizon;
  created = created;
  edited = edited;
  imported = imported;
  import_edited = import_edited;
  moved_in = moved_in;
  deleted = deleted;
  moved_out = moved_out;
}

abbrev pub numbers_of : BookNumbers → Numbers
numbers_of n = record {
  number = n.number;
  horizon = n.horizon;
  created = n.created;
  edited = n.edited;
  imported = n.imported;
  import_edited = n.import_edited;
  moved_in = n.moved_in;
  deleted = n.deleted;
  moved_out = n.moved_out;
}

pub record BookRow : Type 0 where
  pub id : ℤ
  pub name : List ℕ
  pub numbers : Numbers

-- ---- the contents of the table

abbrev pub number_cells : Numbers → Row
number_cells n =
    Int n.number ∷ Int n.horizon ∷ Int n.created ∷ Int n.edited ∷ Int n.imported
    ∷ Int n.import_edited ∷ Int n.moved_in ∷ Int n.deleted ∷ Int n.moved_out ∷ []

-- a book as a stored row: the id comes first, and its own column is null
abbrev pub book_row : BookRow → Row
book_row b = Int b.id ∷ Null ∷ Text b.name ∷ number_cells b.numbers

-- the nine number columns of a row, starting at column `first`
abbrev pub number_cells_from : ℕ → Row → Row
number_cells_from first r =
    column r first ∷ column r (first + 1) ∷ column r (first + 2) ∷ column r (first + 3)
    ∷ column r (first + 4) ∷ column r (first + 5) ∷ column r (first + 6)
    ∷ column r (first + 7) ∷ column r (first + 8) ∷ []

-- the columns of a row that are read; a missing column is null
abbrev pub book_cells : Row → Row
book_cells r = column r 0 ∷ Null ∷ column r 2 ∷ number_cells_from 3 r

-- the rows are those of the books, in any order
abbrev pub HoldBooks : List Row → List BookRow → Type 0
HoldBooks rows bs = IsPermutation (map book_row bs) (map book_cells rows)

-- the table `book` holds these books
abbrev pub HasBooks : State → List BookRow → Type 0
HasBooks s bs = HoldBooks (s.now.trees book_tree) bs

abbrev pub has_name : List ℕ → BookRow → Bool
has_name name b = bytes_eq b.name name

abbrev pub has_id : ℤ → BookRow → Bool
has_id id b = int_eq b.id id

-- no two books share an id or a name
abbrev pub AreBooks : List BookRow → Type 0
AreBooks = IsAscending (λ a b. (int_eq a.id b.id ≡ false) × (has_name a.name b ≡ false))

abbrev pub book_table : StoredTable BookRow
book_table = record { tree = book_tree; Hold = HoldBooks; AreDistinct = AreBooks }

-- ---- result rows

abbrev pub numbers_shown : BookRow → Row
numbers_shown b = Int b.id ∷ number_cells b.numbers

abbrev pub book_shown : BookRow → Row
book_shown b = Int b.id ∷ Text b.name ∷ number_cells b.numbers

-- the result row of any row of the table
abbrev pub book_listed : Row → Row
book_listed r = column r 0 ∷ column r 2 ∷ number_cells_from 3 r

-- in the order of the octets of the names
abbrev pub by_name : BookRow → BookRow → Ordering
by_name a b = text_cmp a.name b.name

-- ---- the effect of a statement

-- the book with the id gets these numbers; the others are unchanged
abbrev pub with_book_numbers : ℤ → Numbers → List BookRow → List BookRow
with_book_numbers id numbers = map (λ b. if has_id id b then record b { numbers = numbers } else b)

-- a book without changes
abbrev pub blank_book : ℤ → List ℕ → BookRow
blank_book id name = record {
  id = id;
  name = name;
  numbers = numbers (pos 0) (pos 0) (pos 0) (pos 0) (pos 0) (pos 0) (pos 0) (pos 0) (pos 0);
}

-- the table holds the old books and the empty book
abbrev pub AddsBook : State → ℤ → List ℕ → List BookRow → Type 0
AddsBook new id name bs =
    AddsRow HoldBooks (λ b. b.id) (blank_book id name) bs (new.now.trees book_tree)
