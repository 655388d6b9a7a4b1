-- Creating a book.
use Rattle.std.specs.Prelude.{ℕ, ◌+◌, Bool, not, nat_lt, List, Result, Ok}
use Rattle.std.specs.FinMap as finite
use Rattle.book_model.specs.declared.refusal.Refusal.{Refusal}
use Rattle.book_model.specs.declared.refusal.Refusal.TheVariants.{BadBookName, BookExists}
use Rattle.book_model.specs.declared.refusal.Refusal.TheVariants.{TooManyBooks}
use Rattle.book_model.specs.Bounds.{Bounds}
use Rattle.book_model.specs.BookNames.{is_legal_name}
use Rattle.book_model.specs.Books.{Books, fresh_book}
use Rattle.book_model.specs.CallOutcomes.{◌>>=◌, refuse_unless}

-- the id of a new book of this name in a store with this number of books, or why there can't be one
abbrev pub new_id : Bounds → List ℕ → Bool → ℕ → Result ℕ Refusal
new_id limits name name_exists books = do
  legal ← refuse_unless (is_legal_name name) BadBookName
  free ← refuse_unless (not name_exists) BookExists
  room ← refuse_unless (nat_lt books limits.books_max) TooManyBooks
  Ok (books + 1)

-- the books with the new one
abbrev pub create_step : Bounds → Books → List ℕ → Result (ℕ × Books) Refusal
create_step limits books name = do
  id ← new_id limits name (finite.contains_key books name) (finite.len books)
  Ok (id, finite.insert books name (fresh_book id limits.keep))
