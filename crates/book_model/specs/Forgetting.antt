-- Forgetting removals up to a number: tokens that need them are refused from then on (RFC 6578,
-- section 3.2, the precondition valid-sync-token). The way it is done is this project's own.
use Rattle.std.specs.Prelude.{ℕ, Bool, false, not, ◌&&◌, ◌||◌, nat_le, nat_lt, List, length, filter}
use Rattle.std.specs.Prelude.{is_some, Result, Ok}
use Rattle.std.specs.Option.{option_map_or}
use Rattle.std.specs.FinMap as finite
use Rattle.base_types.specs.TextMaps.{text_cmp}
use Rattle.book_model.specs.declared.refusal.Refusal.{Refusal}
use Rattle.book_model.specs.declared.refusal.Refusal.TheVariants.{BadForget}
use Rattle.book_model.specs.declared.row.Row.{Row}
use Rattle.book_model.specs.Books.{Book, Books, book_named}
use Rattle.book_model.specs.CallOutcomes.{◌>>=◌, refuse_unless}

-- the row is kept: its member is live, or was removed after the horizon
abbrev pub is_row_kept : ℕ → Row → Bool
is_row_kept horizon row = is_some row.card || nat_lt horizon row.changed

-- how many rows aren't kept
abbrev pub dropped_row_count : finite.FinMap text_cmp Row → ℕ → ℕ
dropped_row_count members horizon =
    length (filter (λ member. not (is_row_kept horizon member.1)) (finite.entries members))

-- the rows that are kept with this horizon
abbrev pub rows_after_forget : finite.FinMap text_cmp Row → ℕ → finite.FinMap text_cmp Row
rows_after_forget members horizon = finite.retain_keys members
    (λ uid. option_map_or (is_row_kept horizon) (finite.get members uid) false)

-- the book with this horizon, without the rows of removals up to it
abbrev pub book_after_forget : Book → ℕ → Book
book_after_forget book upto =
    record book { horizon = upto; members = rows_after_forget book.members upto }

-- the horizon never falls, and doesn't rise above the book's number
abbrev pub may_forget : ℕ → ℕ → ℕ → Bool
may_forget horizon number upto = nat_le horizon upto && nat_le upto number

-- how many rows are dropped, and the books afterwards; forgetting takes no number
abbrev pub forget_step : Books → List ℕ → ℕ → Result (ℕ × Books) Refusal
forget_step books name upto = do
  book ← book_named books name
  allowed ← refuse_unless (may_forget book.horizon book.number upto) BadForget
  Ok (dropped_row_count book.members upto, finite.insert books name (book_after_forget book upto))
