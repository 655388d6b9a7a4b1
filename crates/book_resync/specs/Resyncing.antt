-- A resync: taking many numbers at once, so that every device starts again. It is for a store that
-- was put back from a copy. If fewer numbers were lost than are skipped, each token of the lost time
-- has a number below the new horizon, and is refused as too old (RFC 6578, section 3.2, the
-- precondition valid-sync-token). The way it is done is this project's own.
use Rattle.std.specs.Prelude.{ℕ, ◌+◌, ◌*◌, Bool, nat_le, nat_lt, List, [], ◌∷◌, map, slice_get}
use Rattle.std.specs.Prelude.{Option, Some, None, Result, Ok, if◌then◌else◌}
use Rattle.std.specs.FinMap as finite
use Rattle.base_types.specs.TextMaps.{text_cmp}
use Rattle.book_model.specs.declared.answers.Stored.{Stored}
use Rattle.book_model.specs.declared.counts.Counts.{Counts}
use Rattle.book_model.specs.declared.refusal.Refusal.{Refusal}
use Rattle.book_model.specs.declared.refusal.Refusal.TheVariants.{ChangesSpent, BookFull}
use Rattle.book_model.specs.declared.row.Row.{Row}
use Rattle.book_model.specs.Bounds.{Bounds}
use Rattle.book_model.specs.Books.{Book, Books}
use Rattle.book_model.specs.BookQueries.{live_cards}
use Rattle.book_model.specs.CallOutcomes.{◌>>=◌, refuse_unless}
use Rattle.book_model.specs.Counting.{live_count}
use Rattle.book_model.specs.Forgetting.{book_after_forget}

-- ---- one book

-- each pair is a creation and a removal, and takes two numbers
abbrev pub number_after_pairs : ℕ → ℕ → ℕ
number_after_pairs number pairs = number + 2 * pairs

abbrev pub number_after_resync : Book → ℕ → ℕ
number_after_resync book pairs = number_after_pairs book.number pairs

abbrev pub counts_after_pairs : Counts → ℕ → Counts
counts_after_pairs c pairs =
    record c { created = c.created + pairs; deleted = c.deleted + pairs }

-- the live card with the least UID
abbrev pub first_live_card : Book → Option (List ℕ × Stored)
first_live_card book = slice_get (finite.entries (live_cards book)) 0

-- a book with this many live cards has room for one more
abbrev pub has_room : Bounds → ℕ → Bool
has_room limits cards = nat_lt cards limits.cards_max

-- The live card that each pair removes and creates again. None in a book with room for one more
-- card: there each pair creates a card whose UID isn't live, and removes it.
abbrev pub renewed_card : Bounds → Book → Option (List ℕ × Stored)
renewed_card limits book =
    if has_room limits (live_count book.counts) then None else first_live_card book

-- a renewed card is unchanged, and this number is its version
abbrev pub rows_after_renewal
    : finite.FinMap text_cmp Row → Option (List ℕ × Stored) → ℕ → finite.FinMap text_cmp Row
rows_after_renewal members None number = members
rows_after_renewal members (Some renewed) number =
    finite.insert members renewed.0 (record { changed = number; card = Some renewed.1.card })

-- the book after the pairs
abbrev pub book_after_pairs : Book → Option (List ℕ × Stored) → ℕ → Book
book_after_pairs book renewed pairs = record book {
  number = number_after_resync book pairs;
  counts = counts_after_pairs book.counts pairs;
  members = rows_after_renewal book.members renewed (number_after_resync book pairs);
}

-- the book after the pairs has forgotten every removal
abbrev pub book_after_resync : Bounds → Book → ℕ → Book
book_after_resync limits book pairs =
    book_after_forget (book_after_pairs book (renewed_card limits book) pairs)
    (number_after_resync book pairs)

-- ---- which books are refused

-- a book with this number has the numbers of this many pairs left
abbrev pub has_pairs_left : Bounds → ℕ → ℕ → Bool
has_pairs_left limits number pairs = nat_le (number_after_pairs number pairs) limits.changes_max

-- it has no more live cards than the limit, so a card that is removed can be created again
abbrev pub is_within_room : Bounds → ℕ → Bool
is_within_room limits cards = nat_le cards limits.cards_max

-- the last number of a book with this number and this many live cards, or why it is refused
abbrev pub last_number : Bounds → ℕ → ℕ → ℕ → Result ℕ Refusal
last_number limits pairs number cards = do
  left ← refuse_unless (has_pairs_left limits number pairs) ChangesSpent
  room ← refuse_unless (is_within_room limits cards) BookFull
  Ok (number_after_pairs number pairs)

abbrev pub last_number_of : Bounds → ℕ → Book → Result ℕ Refusal
last_number_of limits pairs book =
    last_number limits pairs book.number (live_count book.counts)

-- no book is refused, or the first one that is
abbrev pub accept_books : Bounds → ℕ → List (List ℕ × Book) → Result (Unit {0}) Refusal
accept_books limits pairs [] = Ok tt
accept_books limits pairs (named ∷ others) = do
  number ← last_number_of limits pairs named.1
  accept_books limits pairs others

-- ---- all books

abbrev pub books_after_resync : Bounds → Books → ℕ → Books
books_after_resync limits books pairs =
    finite.from_sorted
    (map (λ named. (named.0, book_after_resync limits named.1 pairs)) (finite.entries books))

-- How many books there are, and the books afterwards: each takes the numbers of this many pairs.
-- The books are tested in the order of their names.
abbrev pub resync_step : Bounds → Books → ℕ → Result (ℕ × Books) Refusal
resync_step limits books pairs = do
  accepted ← accept_books limits pairs (finite.entries books)
  Ok (finite.len books, books_after_resync limits books pairs)
