-- Why the line of a book can't be written, book by book.
use Rattle.std.specs.Prelude.{◌≡◌, List, Err}
use Rattle.std.specs.List.{Contains}
use Rattle.book_model.specs.BookQueries.{tally_step}
use Rattle.book_model.specs.Books.{Books}
use Rattle.book_model.specs.declared.answers.BookLine.{BookLine}
use Rattle.book_model.specs.declared.denied.Denied.{Denied}
use Rattle.book_model.specs.declared.denied.Denied.TheVariants.{Refused, Fault}

-- a refusal is that of the book's tally
abbrev pub IsLineDenial : Books → BookLine → Denied → Type 0
IsLineDenial books line (Refused refusal) = tally_step books line.name ≡ Err refusal
IsLineDenial books line (Fault fault) = Unit {0}

-- a refusal is that of the tally of one of the books
pub record IsLinesDenial (books : Books) (lines : List BookLine) (denied : Denied) : Type 0 where
  pub line : BookLine
  pub listed : Contains lines line
  pub denies : IsLineDenial books line denied
