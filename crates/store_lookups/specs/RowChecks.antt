-- Further tests of rows that are read.
use Rattle.std.specs.Prelude.{◌≡◌, ◌≤◌, ⊤, ℕ, List, Option, Some, None}
use Rattle.sqlite.specs.declared.types.Value.TheVariants.{Text}
use Rattle.sqlite.specs.Order.{Row, column}
use Rattle.vcard_lines.specs.declared.line.Line.{Line}
use Rattle.vcard_text.specs.Cards.{canonical_text}
use Rattle.book_model.specs.declared.counts.Counts.{Counts}
use Rattle.book_model.specs.Counting.{total_changes}
use Rattle.store_rows.specs.TableBooks.{HeaderRow}

abbrev pub header_of : ℕ → ℕ → ℕ → Counts → HeaderRow
header_of id number horizon counts =
    record { id = id; number = number; horizon = horizon; counts = counts }

-- the counts sum to the number, and the horizon is at most the number
pub record IsConsistentHeader (header : HeaderRow) : Type 0 where
  pub sum : total_changes header.counts ≡ header.number
  pub horizon : header.horizon ≤ header.number

-- if there is a card, the column has its canonical text
abbrev pub ShowsCanonical : ℕ → Row → Option (List Line) → Type 0
ShowsCanonical at row None = ⊤
ShowsCanonical at row (Some card) = column row at ≡ Text (canonical_text card)
