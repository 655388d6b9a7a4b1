-- Removing a card: the member's mapping is removed (RFC 6578, section 3.5.2). The tests are this
-- project's own.
use Rattle.std.specs.Prelude.{ℕ, List, Option, Result, Ok, Err}
use Rattle.std.specs.Option.{option_map_or}
use Rattle.std.specs.FinMap as finite
use Rattle.book_model.specs.declared.answers.Stored.{Stored}
use Rattle.book_model.specs.declared.change.Change.TheVariants.{TakesAway}
use Rattle.book_model.specs.declared.change.RemovalReason.TheVariants.{Deletion}
use Rattle.book_model.specs.declared.refusal.Refusal.{Refusal}
use Rattle.book_model.specs.declared.refusal.Refusal.TheVariants.{NoSuchCard, VersionMismatch}
use Rattle.book_model.specs.Bounds.{Bounds}
use Rattle.book_model.specs.Books.{Books, book_named, live_or_no_such_card}
use Rattle.book_model.specs.BookChanges.{book_after_change}
use Rattle.book_model.specs.CallOutcomes.{◌>>=◌, refuse_unless}
use Rattle.book_model.specs.Putting.{FoundMember, is_expected, next_number, found_in_book}

-- the number of the removal
abbrev pub remove_number : Bounds → FoundMember → Option ℕ → Result ℕ Refusal
remove_number limits found expect = do
  stored ← live_or_no_such_card found.live
  expected ← refuse_unless (is_expected expect stored.version) (VersionMismatch stored.version)
  next_number limits found.number

abbrev pub remove_step : Bounds → Books → List ℕ → List ℕ → Option ℕ → Result (ℕ × Books) Refusal
remove_step limits books name uid expect = do
  book ← book_named books name
  number ← remove_number limits (found_in_book book uid) expect
  Ok (number, finite.insert books name (book_after_change book uid (TakesAway Deletion)))
