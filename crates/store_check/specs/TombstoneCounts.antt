-- How many tombstones each book has.
use Rattle.std.specs.Prelude.{◌≡◌, ℕ, List, Vec, filter, length, map, string_bytes}
use Rattle.std.specs.Prelude.{Result, Ok, Err, Some}
use Rattle.std.specs.declared.alloc.Global.{Global}
use Rattle.std.specs.FinMap as finite
use Rattle.std.specs.List.{AllByRecursion}
use Rattle.sqlite_rules.specs.Lists.{Has}
use Rattle.sqlite.specs.Effect.{Database}
use Rattle.book_model.specs.Books.{Book, Books}
use Rattle.book_model.specs.BookQueries.{tombstone_count}
use Rattle.book_model.specs.Bounds.{Bounds}
use Rattle.store_tables.specs.Books.{BookRow}
use Rattle.store_tables.specs.Members.{MemberRow, is_removed_above}
use Rattle.store_rows.specs.SoundTables.{HoldsWellFormed}
use Rattle.store_rows.specs.TableBooks.{books_in}
use Rattle.store_schema.specs.declared.open_fault.OpenFault.{OpenFault}
use Rattle.store_check.specs.declared.counts.TombstoneCount.{TombstoneCount}
use Rattle.store_check.specs.OpenResults.{IsOpenResult}

-- the book's name and its number of tombstones
abbrev pub count_entry : TombstoneCount → List ℕ × ℕ
count_entry c = (string_bytes c.book, c.tombstones)

-- the same, of a row of `book` and the members of all books
abbrev pub removed_entry : List MemberRow → BookRow → List ℕ × ℕ
removed_entry ms b = (b.name, length (filter (is_removed_above b.id b.numbers.horizon) ms))

-- a book of this name has this number of tombstones
pub record IsCountOf (books : Books) (c : TombstoneCount) : Type 0 where
  pub book : Book
  pub listed : finite.get books (string_bytes c.book) ≡ Some book
  pub counted : tombstone_count book ≡ c.tombstones

-- each of the counts is that of a book, and each book has one
pub record AreTombstoneCounts (books : Books) (counts : List TombstoneCount) : Type 0 where
  pub each_count : AllByRecursion (IsCountOf books) counts
  pub each_book : (name : List ℕ) (book : Book) → finite.get books name ≡ Some book
      → Has (map count_entry counts) (name, tombstone_count book)

-- The result of opening tables that returns the counts: if the tables hold well-formed books, one
-- for each; otherwise the fault, as `IsOpenResult` says.
abbrev pub IsCountedResult : Bounds → Database → Result (Vec TombstoneCount Global) OpenFault
    → Type 0
IsCountedResult limits db (Ok counts) =
    HoldsWellFormed limits db × AreTombstoneCounts (books_in db.trees) counts.items
IsCountedResult limits db (Err fault) = IsOpenResult limits db (Err fault)
