-- Moving a card from one book to another: it is a removed member of the source and a changed member
-- of the target (RFC 6578, section 3.5). The tests are this project's own.
use Rattle.std.specs.Prelude.{ℕ, not, nat_lt, List, is_some, Option, Result, Ok}
use Rattle.std.specs.FinMap as finite
use Rattle.vcard_lines.specs.declared.line.Line.{Line}
use Rattle.book_model.specs.declared.answers.Moved.{Moved}
use Rattle.book_model.specs.declared.change.Change.TheVariants.{Stores, TakesAway}
use Rattle.book_model.specs.declared.change.StoreReason.TheVariants.{MoveIn}
use Rattle.book_model.specs.declared.change.RemovalReason.TheVariants.{MoveOut}
use Rattle.book_model.specs.declared.refusal.Refusal.{Refusal}
use Rattle.book_model.specs.declared.refusal.Refusal.TheVariants.{VersionMismatch, UidTaken}
use Rattle.book_model.specs.declared.refusal.Refusal.TheVariants.{SameBook, BookFull}
use Rattle.book_model.specs.Bounds.{Bounds}
use Rattle.book_model.specs.Books.{Book, Books, book_named, same_name}
use Rattle.book_model.specs.BookChanges.{book_after_change}
use Rattle.book_model.specs.CallOutcomes.{◌>>=◌, refuse_unless}
use Rattle.book_model.specs.Putting.{FoundMember, is_expected, next_number, found_in_book}
use Rattle.book_model.specs.Books.{live_or_no_such_card}

-- the moved card, and the numbers of the move in both books
pub record Moving : Type 0 where
  pub card : List Line
  pub numbers : Moved

abbrev pub moving_of : List Line → Moved → Moving
moving_of card numbers = record { card = card; numbers = numbers }

-- the numbers of a move, given the live cards of the target book, and the numbers of the source and
-- of the target book
abbrev pub move_numbers : Bounds → ℕ → ℕ → ℕ → Result Moved Refusal
move_numbers limits cards source target = do
  room ← refuse_unless (nat_lt cards limits.cards_max) BookFull
  from ← next_number limits source
  version ← next_number limits target
  Ok (record { from = from; version = version })

-- the result of a move, given what was found under the UID in the source and in the target book
abbrev pub move_answer : Bounds → FoundMember → FoundMember → Option ℕ → Result Moving Refusal
move_answer limits source target expect = do
  stored ← live_or_no_such_card source.live
  free ← refuse_unless (not (is_some target.live)) UidTaken
  expected ← refuse_unless (is_expected expect stored.version) (VersionMismatch stored.version)
  numbers ← move_numbers limits target.cards source.number target.number
  Ok (record { card = stored.card; numbers = numbers })

-- the books after a move from the source to the target
abbrev pub books_after_move : Books → List ℕ → List ℕ → List ℕ → Book → Book → List Line → Books
books_after_move books from to uid source target card =
    finite.insert (finite.insert books to (book_after_change target uid (Stores card MoveIn))) from
    (book_after_change source uid (TakesAway MoveOut))

abbrev pub move_step : Bounds → Books → List ℕ → List ℕ → List ℕ → Option ℕ
    → Result (Moved × Books) Refusal
move_step limits books from to uid expect = do
  source ← book_named books from
  target ← book_named books to
  apart ← refuse_unless (not (same_name from to)) SameBook
  moving ← move_answer limits (found_in_book source uid) (found_in_book target uid) expect
  Ok (moving.numbers, books_after_move books from to uid source target moving.card)
