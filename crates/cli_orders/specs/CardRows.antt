-- The line in a row's card at which the card has its first fault.
use Rattle.std.specs.Prelude.{ℕ, ◌≡◌, ◌⊎◌, ◌+◌, List, [], ◌∷◌, ◌++◌, length, Option, None}
use Rattle.csv_cards.specs.Rows.{Row, RowsBeginWith, header, row_field}
use Rattle.csv_cards.specs.declared.cause.CsvCause.{CsvCause}
use Rattle.csv_cards.specs.declared.cause.CsvCause.TheVariants as cause
use Rattle.csv_cards.specs.declared.fault.CsvFault.{CsvFault}
use Rattle.csv_cards.specs.declared.form.Form.TheVariants as form
use Rattle.cli_orders.specs.FaultLines.{IsLineOfFault}
use Rattle.vcard_lines.specs.declared.fault.CardFault.{CardFault}

-- the row of this number has this text of a card, under the header `uid,vcard`, which is row 0
pub record IsCardTextOfRow (octets : List ℕ) (number : ℕ) (text : List ℕ) : Type 0 where
  pub before : List Row
  pub row : Row
  pub begin : RowsBeginWith octets (header form.Cards ∷ (before ++ row ∷ []))
  pub place : number ≡ length before + 1
  pub text_is : text ≡ row_field row 1

-- under the other header, a row has no text of a card
abbrev pub HasNoCardText : List ℕ → ℕ → Type 0
HasNoCardText octets number = (text : List ℕ) → IsCardTextOfRow octets number text → ⊥

-- the line in the text of the row's card, counted from 1; none if the fault isn't one of a line, or
-- the row has no such text
abbrev pub IsLineInCard : List ℕ → ℕ → CardFault → Option ℕ → Type 0
IsLineInCard octets number fault line =
    ((text : List ℕ) × IsCardTextOfRow octets number text × IsLineOfFault text fault line)
    ⊎ (HasNoCardText octets number × (line ≡ None))

-- the same by the cause for which the row isn't a card; only a fault of the card has a line
abbrev pub IsLineOfCause : List ℕ → ℕ → CsvCause → Option ℕ → Type 0
IsLineOfCause octets number (cause.BadCard fault) line = IsLineInCard octets number fault line
IsLineOfCause octets number why line = line ≡ None

abbrev pub IsLineInRow : List ℕ → CsvFault → Option ℕ → Type 0
IsLineInRow octets fault line = IsLineOfCause octets fault.row fault.cause line
