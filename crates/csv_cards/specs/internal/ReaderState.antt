-- The state of the loop that reads rows.
use Rattle.std.specs.Prelude.{ℕ, ◌≡◌, ◌↔◌, true, ◌+◌, length, List, [], ◌∷◌, ◌++◌, map, Some}
use Rattle.std.specs.FinMap as finite
use Rattle.std.specs.Option.{IsSome}
use Rattle.std.specs.List.{Contains}
use Rattle.std.specs.Borrow.{Bor}
use Rattle.csv.specs.Reading.{Reached, Ready, default_config, is_flexible, reader_config}
use Rattle.csv.specs.Reading.{reader_state, reader_trim, source_of, strip_bom}
use Rattle.csv.specs.declared.parser.State.TheVariants as st
use Rattle.csv.specs.declared.reader.Reader.{Reader}
use Rattle.csv.specs.declared.reader.Trim.TheVariants as trim
use Rattle.base_types.specs.TextMaps.{text_cmp}
use Rattle.vcard_lines.specs.declared.line.Line.{Line}
use Rattle.vcard_text.specs.Cards.{uid_of}
use Rattle.csv_cards.specs.declared.form.Form.{Form}
use Rattle.csv_cards.specs.Rows.{Row, header}
use Rattle.csv_cards.specs.Reading.{RowsRepresent, RowRepresents}

-- The reader has read these rows of the text and continues after them. Rows may have any length.
pub record HasReadRows (reader : Reader (Bor (List ℕ))) (text : List ℕ) (rows : List Row) : Type 0
  where
    pub plain : reader_trim reader ≡ trim.None
    pub ready : Ready reader
    pub config : reader_config reader ≡ default_config
    pub flexible : is_flexible reader ≡ true
    pub rest : List ℕ
    pub source : source_of (λ s. Some s.now) reader ≡ Some rest
    pub reached : Reached default_config st.StartRecord (strip_bom text) rows
        (reader_state reader) rest

-- The keys of the map are the UIDs of the cards.
abbrev pub HasUids : finite.FinMap text_cmp (Unit {0}) → List (List Line) → Type 0
HasUids uids cards = (uid : List ℕ) → IsSome (finite.get uids uid) ↔ Contains (map uid_of cards) uid

-- The card of the row is appended. None of the old cards has its UID.
pub record AppendsRowCard (f : Form) (old : List (List Line)) (row : Row) (new : List (List Line))
    : Type 0 where
  pub card : List Line
  pub has_read : new ≡ old ++ card ∷ []
  pub represents : RowRepresents f row card
  pub first : Contains (map uid_of old) (uid_of card) → ⊥

-- The reader has read the header and rows that represent the cards. The next row has the number.
pub record HasReadCards (f : Form) (reader : Reader (Bor (List ℕ))) (text : List ℕ) (number : ℕ)
    (cards : List (List Line)) : Type 0 where
  pub rows : List Row
  pub has_read : HasReadRows reader text (header f ∷ rows)
  pub represent : RowsRepresent f rows cards
  pub count : number ≡ length rows + 1
