-- The text of one row of an import.
use Rattle.std.specs.Prelude.{ℕ, List}
use Rattle.csv.specs.Writing.{default_writer, row_text}
use Rattle.vcard_lines.specs.declared.line.Line.{Line}
use Rattle.csv_cards.specs.Writing.{card_row}
use Rattle.csv_cards.specs.Rows.{header}
use Rattle.csv_cards.specs.declared.form.Form.TheVariants.{Cards}

-- the header
abbrev pub header_row_text : List ℕ
header_row_text = row_text default_writer (header Cards)

-- the row of a card
abbrev pub card_row_text : List Line → List ℕ
card_row_text card = row_text default_writer (card_row Cards card)
