-- A store as contracts see it: its books by name, each with its rows.
use Rattle.std.specs.Prelude.{ℕ, Bool, List, Option, Result, Ok, Err}
use Rattle.std.specs.Option.{option_map, option_map_or, option_and_then}
use Rattle.std.specs.Borrow.{Bor}
use Rattle.std.specs.Ordering.{eq_by_cmp}
use Rattle.std.specs.FinMap as finite
use Rattle.base_types.specs.TextMaps.{text_cmp}
use Rattle.vcard_lines.specs.declared.line.Line.{Line}
use Rattle.book_model.specs.declared.answers.ImportTally.{ImportTally}
use Rattle.book_model.specs.declared.answers.Stored.{Stored}
use Rattle.book_model.specs.declared.counts.Counts.{Counts}
use Rattle.book_model.specs.declared.refusal.Refusal.{Refusal}
use Rattle.book_model.specs.declared.refusal.Refusal.TheVariants.{NoSuchBook, NoSuchCard}
use Rattle.book_model.specs.declared.row.Row.{Row}
use Rattle.book_model.specs.Counting.{no_counts}

-- A book: its id, the number of its last change, its horizon (removals up to this number are
-- forgotten), the most tombstones that it keeps, its changes counted by reason, the rows of its
-- members by UID, and the tallies of imports by key.
pub record Book : Type 0 where
  pub id : ℕ
  pub number : ℕ
  pub horizon : ℕ
  pub keep : ℕ
  pub counts : Counts
  pub members : finite.FinMap text_cmp Row
  pub imports : finite.FinMap text_cmp ImportTally

-- the live cards of a book by UID, each with its version
abbrev pub LiveCards : Type 0
LiveCards = finite.FinMap text_cmp Stored

abbrev pub Books : Type 0
Books = finite.FinMap text_cmp Book

-- two names are the same where their octets are equal
abbrev pub same_name : List ℕ → List ℕ → Bool
same_name a b = eq_by_cmp text_cmp a b

-- a book without changes, with this id and tombstone limit
abbrev pub fresh_book : ℕ → ℕ → Book
fresh_book id keep = record {
  id = id;
  number = 0;
  horizon = 0;
  keep = keep;
  counts = no_counts;
  members = finite.empty;
  imports = finite.empty;
}

abbrev pub book_named : Books → List ℕ → Result Book Refusal
book_named books name = option_map_or Ok (finite.get books name) (Err NoSuchBook)

-- the card of a live member, with the number of its last change as its version
abbrev pub stored_in_row : Row → Option Stored
stored_in_row row = option_map (λ card. record { version = row.changed; card = card }) row.card

-- the live card under the UID
abbrev pub live_at : Book → List ℕ → Option Stored
live_at book uid = option_and_then stored_in_row (finite.get book.members uid)

-- the live card, or a refusal where there is none
abbrev pub live_or_no_such_card : Option Stored → Result Stored Refusal
live_or_no_such_card live = option_map_or Ok live (Err NoSuchCard)

-- a version and a borrowed card as a plain value
abbrev pub as_stored : Option (ℕ × Bor (List Line)) → Option Stored
as_stored live = option_map (λ p. record { version = p.0; card = p.1.now }) live
