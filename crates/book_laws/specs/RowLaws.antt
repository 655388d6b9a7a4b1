-- The rows of all books, book by book.
use Rattle.std.specs.Prelude.{ℕ, ◌≡◌, List}
use Rattle.std.specs.Option.{option_map}
use Rattle.std.specs.FinMap as finite
use Rattle.book_laws.specs.StoreHistories.{BookHistories, book_of_history, rows_of}

-- the rows under a name are those of the history under that name, and of no other
abbrev pub RowsArePerBook : Type 0
RowsArePerBook = (histories : BookHistories) (name : List ℕ) →
    finite.get (rows_of histories) name ≡ option_map book_of_history (finite.get histories name)
