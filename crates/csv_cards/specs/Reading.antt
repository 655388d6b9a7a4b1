-- The cards that a CSV text represents, or its first faulty row and the cause.
use Rattle.std.specs.Prelude.{ℕ, ◌≡◌, ◌≢◌, ◌≤◌, ◌⊎◌, ◌+◌, List, [], ◌∷◌, ◌++◌, length, map}
use Rattle.std.specs.List.{AllPairs, Contains}
use Rattle.csv.specs.Records.{AllText}
use Rattle.vcard_lines.specs.declared.line.Line.{Line}
use Rattle.vcard_text.specs.Cards.{IsCard, uid_of}
use Rattle.vcard_text.specs.Spelling.{Spells}
use Rattle.vcard_lines.specs.declared.fault.CardFault.{CardFault}
use Rattle.vcard_text.specs.FirstFaults.{IsFirstFaultOfText as IsFirstCardFault}
use Rattle.vcard_text.specs.Making.{IsFirstFaultOfLines}
use Rattle.csv_cards.specs.declared.form.Form.{Form}
use Rattle.csv_cards.specs.declared.form.Form.TheVariants as form
use Rattle.csv_cards.specs.declared.cause.CsvCause.{CsvCause}
use Rattle.csv_cards.specs.declared.cause.CsvCause.TheVariants as cause
use Rattle.csv_cards.specs.declared.fault.CsvFault.{CsvFault}
use Rattle.csv_cards.specs.Rows.{Row, AreRows, RowsBeginWith, header, row_field}
use Rattle.csv_cards.specs.Columns.{column_lines, name_in}
use Rattle.csv_cards.specs.Causes.{cause_number}

-- ---- one row

-- The second field spells the card. The first is empty or the card's UID.
pub record RowSpellsCard (row : Row) (card : List Line) : Type 0 where
  pub text : Spells (row_field row 1) card
  pub uid : (row_field row 0 ≡ []) ⊎ (row_field row 0 ≡ uid_of card)

-- The columns of the row describe the card.
pub record ColumnsListCard (row : Row) (card : List Line) : Type 0 where
  pub named : name_in row ≢ []
  pub lines : card ≡ column_lines row
  pub rules : IsCard card

abbrev pub RowHoldsCard : Form → Row → List Line → Type 0
RowHoldsCard form.Cards row card = RowSpellsCard row card
RowHoldsCard form.Columns row card = ColumnsListCard row card

-- The row has the form's number of fields, all UTF-8, and represents the card.
pub record RowRepresents (f : Form) (row : Row) (card : List Line) : Type 0 where
  pub fields : length row ≡ length (header f)
  pub utf8 : AllText row
  pub holds : RowHoldsCard f row card

-- ---- what is wrong with a row

-- The second field spells no card, and this is its first fault.
pub record RowMisspellsCard (row : Row) (fault : CardFault) : Type 0 where
  pub none : (card : List Line) → Spells (row_field row 1) card → ⊥
  pub first : IsFirstCardFault (row_field row 1) fault

-- The columns describe no card, and this is the first fault of their lines.
pub record ColumnsMislistCard (row : Row) (fault : CardFault) : Type 0 where
  pub none : IsCard (column_lines row) → ⊥
  pub first : IsFirstFaultOfLines (column_lines row) fault

abbrev pub RowHasCardFault : Form → Row → CardFault → Type 0
RowHasCardFault form.Cards row fault = RowMisspellsCard row fault
RowHasCardFault form.Columns row fault = ColumnsMislistCard row fault

-- The row spells a card, and its first field is another UID.
pub record RowHasOtherUid (row : Row) : Type 0 where
  pub card : List Line
  pub text : Spells (row_field row 1) card
  pub given : row_field row 0 ≢ []
  pub other : row_field row 0 ≢ uid_of card

-- The row represents a card with the UID of an earlier one.
pub record RowRepeatsUid (f : Form) (earlier : List (List Line)) (row : Row) : Type 0 where
  pub card : List Line
  pub represents : RowRepresents f row card
  pub repeated : Contains (map uid_of earlier) (uid_of card)

-- The cause applies to the row, after rows with the earlier cards.
abbrev pub CauseApplies : Form → List (List Line) → Row → CsvCause → Type 0
CauseApplies f earlier row cause.BadHeader = ⊥
CauseApplies f earlier row cause.Columns = length row ≢ length (header f)
CauseApplies f earlier row cause.NotUtf8 = AllText row → ⊥
CauseApplies f earlier row cause.EmptyName = (f ≡ form.Columns) × (name_in row ≡ [])
CauseApplies f earlier row (cause.BadCard fault) = RowHasCardFault f row fault
CauseApplies f earlier row cause.UidMismatch = (f ≡ form.Cards) × RowHasOtherUid row
CauseApplies f earlier row cause.DuplicateUid = RowRepeatsUid f earlier row
CauseApplies f earlier row cause.Memory = ⊥

-- The cause applies, and no other that applies has a lesser number.
pub record IsLeastCause (f : Form) (earlier : List (List Line)) (row : Row) (why : CsvCause)
    : Type 0 where
  pub applies : CauseApplies f earlier row why
  pub least : (other : CsvCause) → CauseApplies f earlier row other
      → cause_number why ≤ cause_number other

-- ---- all rows

-- The rows represent the cards, one for one.
abbrev pub RowsRepresentEach : Form → List Row → List (List Line) → Type 0
RowsRepresentEach f [] [] = Unit {0}
RowsRepresentEach f [] (card ∷ cards) = ⊥
RowsRepresentEach f (row ∷ rows) [] = ⊥
RowsRepresentEach f (row ∷ rows) (card ∷ cards) =
    RowRepresents f row card × RowsRepresentEach f rows cards

-- The rows represent the cards, and no two cards have the same UID.
pub record RowsRepresent (f : Form) (rows : List Row) (cards : List (List Line)) : Type 0 where
  pub each : RowsRepresentEach f rows cards
  pub distinct : AllPairs (λ a b. a ≢ b) (map uid_of cards)

-- The text is a header and rows that represent the cards.
pub record TextHasCards (text : List ℕ) (cards : List (List Line)) : Type 0 where
  pub kind : Form
  pub rows : List Row
  pub are_rows : AreRows text (header kind ∷ rows)
  pub represent : RowsRepresent kind rows cards

-- ---- the first fault

-- The text has no row, or its first row is neither header.
abbrev pub HasBadHeader : List ℕ → Type 0
HasBadHeader text =
    AreRows text [] ⊎ ((row : Row) × RowsBeginWith text (row ∷ []) × ((f : Form) → row ≢ header f))

-- The fault is that of this row, and all rows before it represent cards. Rows are counted from 1,
-- after the header.
pub record IsFirstFaultyRow (text : List ℕ) (fault : CsvFault) : Type 0 where
  pub kind : Form
  pub before : List Row
  pub row : Row
  pub cards : List (List Line)
  pub begin : RowsBeginWith text (header kind ∷ (before ++ row ∷ []))
  pub represent : RowsRepresent kind before cards
  pub place : fault.row ≡ length before + 1
  pub cause : IsLeastCause kind cards row fault.cause

abbrev pub row_fault : ℕ → CsvCause → CsvFault
row_fault row why = record { row = row; cause = why }

-- The header counts as row 0.
abbrev pub IsFirstRowFault : List ℕ → CsvFault → Type 0
IsFirstRowFault text fault =
    (HasBadHeader text × (fault ≡ row_fault 0 cause.BadHeader)) ⊎ IsFirstFaultyRow text fault
