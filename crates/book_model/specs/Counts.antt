-- How many tombstones the books of a store have, by name.
use Rattle.std.specs.Prelude.{ℕ, ◌≡◌, ◌⊎◌, Bool, false, List, Some}
use Rattle.std.specs.Option.{option_map_or}
use Rattle.std.specs.Coded.{Coded, coded_ℕ}
use Rattle.std.specs.FinMap as finite
use Rattle.base_types.specs.TextMaps.{text_cmp, coded_text}
use Rattle.book_model.specs.Books.{Book, Books}
use Rattle.book_model.specs.BookQueries.{is_tombstone_after, tombstone_count}

-- numbers by the names of books
abbrev pub CountsByName : Type 0
CountsByName = finite.FinMap text_cmp ℕ

abbrev pub coded_counts : Coded CountsByName
coded_counts = finite.code coded_text coded_ℕ

-- each number is that of the tombstones of the book with this name; a book may have no entry
abbrev pub AreCountsOf : CountsByName → Books → Type 0
AreCountsOf counts books = (name : List ℕ) (n : ℕ) → finite.get counts name ≡ Some n →
    (book : Book) × (finite.get books name ≡ Some book) × (tombstone_count book ≡ n)

-- the entry of the name is this number, or it was removed for lack of memory
abbrev pub IsWritten : CountsByName → CountsByName → List ℕ → ℕ → Type 0
IsWritten old new name n =
    (new ≡ finite.insert old name n) ⊎ (new ≡ finite.remove old name)

-- the member under the UID is a tombstone
abbrev pub is_tombstone_at : Book → List ℕ → Bool
is_tombstone_at book uid =
    option_map_or (is_tombstone_after book.horizon) (finite.get book.members uid) false
