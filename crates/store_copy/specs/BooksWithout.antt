-- The books of a file of which some are left out.
use Rattle.std.specs.Prelude.{ℕ, ◌≡◌, ◌-◌, ◌<◌, Bool, ◌&&◌, true, List, [], Some, None, bytes_eq}
use Rattle.std.specs.Prelude.{nat_lt, count_by, is_some, if◌then◌else◌}
use Rattle.std.specs.List.{AllByRecursion, list_any}
use Rattle.std.specs.Option.{option_map}
use Rattle.std.specs.FinMap as finite
use Rattle.book_model.specs.Books.{Book, Books}

-- one of these names
abbrev pub is_named : List (List ℕ) → List ℕ → Bool
is_named names name = list_any (λ each. bytes_eq each name) names

-- how many books with these names have a smaller id
abbrev pub named_before : List (List ℕ) → Books → ℕ → ℕ
named_before names books id =
    count_by (λ entry. is_named names entry.0 && nat_lt entry.1.id id) (finite.entries books)

-- the book with its new id, which is the old one less the books that are left out before it
abbrev pub moved_up : List (List ℕ) → Books → Book → Book
moved_up names books book = record book { id = book.id - named_before names books book.id }

-- The new books are the old ones but those with the names. Each has its number, its horizon, its
-- counts, its keep, its rows with all tombstones, and its imports. Its id alone is new: the ids
-- close up, in their order.
abbrev pub AreBooksWithout : List (List ℕ) → Books → Books → Type 0
AreBooksWithout names old new = (name : List ℕ) → finite.get new name
    ≡ (if is_named names name then None
    else option_map (moved_up names old) (finite.get old name))

-- without any name they are the old ones
abbrev pub NothingIsLeftOut : Type 0
NothingIsLeftOut = (old new : Books) → AreBooksWithout [] old new → new ≡ old

-- each name is that of a book
abbrev pub HaveBooks : List (List ℕ) → Books → Type 0
HaveBooks names books = AllByRecursion (λ name. is_some (finite.get books name) ≡ true) names

-- no book has so great a number
abbrev pub HaveNumbersBelow : ℕ → Books → Type 0
HaveNumbersBelow bound books = (name : List ℕ) (book : Book) →
    finite.get books name ≡ Some book → book.number < bound
