-- The steps of the queries of one book.
use Rattle.std.specs.Prelude.{ℕ, List, Option, Result, Ok, Err}
use Rattle.std.specs.FinMap as finite
use Rattle.book_model.specs.declared.answers.ImportTally.{ImportTally}
use Rattle.book_model.specs.declared.answers.Stored.{Stored}
use Rattle.book_model.specs.declared.refusal.Refusal.{Refusal}
use Rattle.book_model.specs.declared.refusal.Refusal.TheVariants.{BadKey, NoSuchCard}
use Rattle.book_model.specs.declared.token.Mark.{Mark}
use Rattle.book_model.specs.declared.token.Token.{Token}
use Rattle.book_model.specs.Books.{Book, Books, book_named}
use Rattle.book_model.specs.Bounds.{Bounds}
use Rattle.book_model.specs.Importing.{is_legal_key}
use Rattle.book_model.specs.CallOutcomes.{◌>>=◌, refuse_unless}
use Rattle.book_model.specs.Pages.{ReportRequest, requested_mark, page_size}

-- the refusal of a look-up of a card that no book with the name has
abbrev pub missing_card_step : Books → List ℕ → Result Stored Refusal
missing_card_step books name = do
  book ← book_named books name
  Err NoSuchCard

-- the stored result of the import with the key, if any; refused if the key is not legal
abbrev pub import_tally_step : List ℕ → Book → Result (Option ImportTally) Refusal
import_tally_step key book = do
  legal ← refuse_unless (is_legal_key key) BadKey
  Ok (finite.get book.imports key)

abbrev pub request_for : Book → Mark → ℕ → ReportRequest
request_for book mark size = record { book = book; mark = mark; size = size }

-- the request of a page for the token and the limit, or the refusal of one of these
abbrev pub page_step : Bounds → Option Token → Option ℕ → Book → Result ReportRequest Refusal
page_step limits token limit book = do
  mark ← requested_mark book.id book.number book.horizon token
  size ← page_size limits.page_max limit
  Ok (request_for book mark size)
