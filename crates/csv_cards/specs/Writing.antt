-- The CSV text of cards, in each form.
use Rattle.std.specs.Prelude.{ℕ, List, [], ◌∷◌, map, flat_map, codes, get_or}
use Rattle.std.specs.Option.{option_map_or}
use Rattle.csv.specs.Writing.{default_writer, row_text}
use Rattle.vcard_lines.specs.declared.line.Line.{Line}
use Rattle.vcard_text.specs.Cards.{first_line_named, uid_of, canonical_text}
use Rattle.vcard_lines.specs.TextValues.{unescaped_text, components}
use Rattle.csv_cards.specs.declared.form.Form.{Form}
use Rattle.csv_cards.specs.declared.form.Form.TheVariants as form
use Rattle.csv_cards.specs.Rows.{Row, header}

-- the value of the first line with the name; empty if there is none
abbrev pub first_value : List ℕ → List Line → List ℕ
first_value name card = option_map_or (λ line. line.value) (first_line_named name card) []

-- the text of the first line with the name
abbrev pub first_text : List ℕ → List Line → List ℕ
first_text name card = unescaped_text (first_value name card)

-- the component at the index of the first line with the name
abbrev pub first_component : List ℕ → ℕ → List Line → List ℕ
first_component name place card = get_or (components (first_value name card)) place []

-- the row of a card
abbrev pub card_row : Form → List Line → Row
card_row form.Cards card = uid_of card ∷ canonical_text card ∷ []
card_row form.Columns card =
    uid_of card
    ∷ first_text (codes "FN") card
    ∷ first_component (codes "N") 0 card
    ∷ first_component (codes "N") 1 card
    ∷ first_text (codes "EMAIL") card
    ∷ first_text (codes "TEL") card
    ∷ first_component (codes "ORG") 0 card
    ∷ first_text (codes "NOTE") card
    ∷ []

-- rows as `csv` writes them: fields quoted where necessary, and a line feed after each row
abbrev pub rows_text : List Row → List ℕ
rows_text rows = flat_map (row_text default_writer) rows

-- the header, and a row for each card
abbrev pub csv_text : Form → List (List Line) → List ℕ
csv_text f cards = rows_text (header f ∷ map (card_row f) cards)
