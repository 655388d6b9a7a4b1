-- Storing a card under its UID. A member that has a card is modified, otherwise it is newly mapped
-- (RFC 6578, section 3.5.1). The tests and the expected version are this project's own.
use Rattle.std.specs.Prelude.{ℕ, ◌+◌, ◌==◌, Bool, true, nat_lt, List, Option, Some, None, Result}
use Rattle.std.specs.Prelude.{Ok, if◌then◌else◌}
use Rattle.std.specs.Option.{option_map_or}
use Rattle.std.specs.FinMap as finite
use Rattle.vcard_lines.specs.declared.line.Line.{Line}
use Rattle.vcard_text.specs.Cards.{uid_of}
use Rattle.book_model.specs.declared.answers.PutAnswer.{PutAnswer}
use Rattle.book_model.specs.declared.answers.PutAnswer.TheVariants.{Created, Edited, Unchanged}
use Rattle.book_model.specs.declared.answers.Stored.{Stored}
use Rattle.book_model.specs.declared.change.Change.TheVariants.{Stores}
use Rattle.book_model.specs.declared.change.StoreReason.{StoreReason}
use Rattle.book_model.specs.declared.change.StoreReason.TheVariants.{Creation, Edit}
use Rattle.book_model.specs.declared.decisions.lookup.MemberLookup.{MemberLookup}
use Rattle.book_model.specs.declared.refusal.Refusal.{Refusal}
use Rattle.book_model.specs.declared.refusal.Refusal.TheVariants.{VersionMismatch, BookFull}
use Rattle.book_model.specs.declared.refusal.Refusal.TheVariants.{ChangesSpent}
use Rattle.book_model.specs.Bounds.{Bounds}
use Rattle.book_model.specs.Books.{Book, Books, book_named, live_at, as_stored}
use Rattle.book_model.specs.BookChanges.{book_after_change}
use Rattle.book_model.specs.Counting.{live_count}
use Rattle.book_model.specs.CallOutcomes.{◌>>=◌, refuse_unless}
use Rattle.book_model.specs.SameCards.{same_card}

-- what a change of one member looks up: the live card under its UID, how many cards are live, and
-- the book's number
pub record FoundMember : Type 0 where
  pub live : Option Stored
  pub cards : ℕ
  pub number : ℕ

-- what a store looked up, as plain values without borrows
abbrev pub as_found_member : MemberLookup → FoundMember
as_found_member finding = record {
  live = as_stored finding.live;
  cards = finding.cards;
  number = finding.number;
}

-- the version of the live card, or 0 where there is none
abbrev pub version_of : Option Stored → ℕ
version_of live = option_map_or (λ stored. stored.version) live 0

abbrev pub is_expected : Option ℕ → ℕ → Bool
is_expected None version = true
is_expected (Some expect) version = expect == version

abbrev pub next_number : Bounds → ℕ → Result ℕ Refusal
next_number limits number = do
  left ← refuse_unless (nat_lt number limits.changes_max) ChangesSpent
  Ok (number + 1)

-- an equal card takes no number and is subject to no limit
abbrev pub answer_over_live : Bounds → FoundMember → List Line → Option Stored
    → Result PutAnswer Refusal
answer_over_live limits found card None = do
  room ← refuse_unless (nat_lt found.cards limits.cards_max) BookFull
  version ← next_number limits found.number
  Ok (Created version)
answer_over_live limits found card (Some stored) =
    if same_card stored.card card
    then Ok (Unchanged stored.version)
    else (next_number limits found.number >>= λ version. Ok (Edited version))

abbrev pub put_answer : Bounds → FoundMember → List Line → Option ℕ → Result PutAnswer Refusal
put_answer limits found card expect = do
  expected ← refuse_unless (is_expected expect (version_of found.live))
      (VersionMismatch (version_of found.live))
  answer_over_live limits found card found.live

-- why the card is stored, or None where it is unchanged
abbrev pub put_store_reason : PutAnswer → Option StoreReason
put_store_reason (Created version) = Some Creation
put_store_reason (Edited version) = Some Edit
put_store_reason (Unchanged version) = None

-- the version that the card has after the put
abbrev pub answered_version : PutAnswer → ℕ
answered_version (Created version) = version
answered_version (Edited version) = version
answered_version (Unchanged version) = version

-- what a change looks up in the rows of a book
abbrev pub found_in_book : Book → List ℕ → FoundMember
found_in_book book uid =
    record { live = live_at book uid; cards = live_count book.counts; number = book.number }

abbrev pub books_after_put : Books → List ℕ → Book → List Line → Option StoreReason → Books
books_after_put books name book card None = books
books_after_put books name book card (Some why) =
    finite.insert books name (book_after_change book (uid_of card) (Stores card why))

abbrev pub put_step : Bounds → Books → List ℕ → List Line → Option ℕ
    → Result (PutAnswer × Books) Refusal
put_step limits books name card expect = do
  book ← book_named books name
  answer ← put_answer limits (found_in_book book (uid_of card)) card expect
  Ok (answer, books_after_put books name book card (put_store_reason answer))
