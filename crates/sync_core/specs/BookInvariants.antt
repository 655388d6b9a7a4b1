-- The invariant of a book in memory.
use Rattle.std.specs.Prelude.{ℕ, ◌≡◌, ◌≤◌, List, map, filter, Option}
use Rattle.std.specs.Option.{option_and_then}
use Rattle.std.specs.List.{AllByRecursion}
use Rattle.std.specs.FinMap as finite
use Rattle.base_types.specs.TextMaps.{text_cmp}
use Rattle.vcard_lines.specs.declared.line.Line.{Line}
use Rattle.book_model.specs.declared.counts.Counts.{Counts}
use Rattle.book_model.specs.declared.row.Row.{Row}
use Rattle.book_model.specs.Books.{Book}
use Rattle.book_model.specs.Counting.{total_changes}
use Rattle.book_model.specs.Pages.{MemberWithRow}
use Rattle.book_model.specs.BookQueries.{is_tombstone_after}

-- the counts sum to the number, and no row has a greater number
pub record HasSoundNumbers (number : ℕ) (counts : Counts)
    (members : finite.FinMap text_cmp Row) : Type 0 where
  pub sum : total_changes counts ≡ number
  pub rows : AllByRecursion (λ (m : MemberWithRow). m.1.changed ≤ number) (finite.entries members)

-- the card in the UID's row, if any
abbrev pub card_at : Book → List ℕ → Option (List Line)
card_at book uid = option_and_then (λ row. row.card) (finite.get book.members uid)

-- the numbers of the removals above the horizon, in the order of their members' UIDs
abbrev pub removal_numbers : finite.FinMap text_cmp Row → ℕ → List ℕ
removal_numbers members horizon = map (λ member. member.1.changed)
    (filter (λ member. is_tombstone_after horizon member.1) (finite.entries members))
