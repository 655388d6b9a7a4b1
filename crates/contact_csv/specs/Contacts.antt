-- The contact of a row, and a reader of the rows of a file.
use Rattle.std.specs.Prelude.{ℕ, ◌≡◌, ◌<◌, Bool, true, false, List, [], Option, length, get_or, map}
use Rattle.std.specs.Prelude.{option_map}
use Rattle.std.specs.Prelude.{Result, MatchResult}
use Rattle.csv.specs.Reading.{Ready, ReadRecord, reader_config, reader_state, reader_trim}
use Rattle.csv.specs.Reading.{source_of, strip_bom}
use Rattle.csv.specs.declared.parser.State.TheVariants as st
use Rattle.csv.specs.declared.reader.Reader.{Reader}
use Rattle.csv.specs.declared.reader.Trim.TheVariants as trim
use Rattle.vcard_lines.specs.declared.fault.CardFault.{CardFault}
use Rattle.vcard_lines.specs.declared.line.Line.{Line}
use Rattle.vcard_text.specs.Cards.{uid_of}
use Rattle.vcard_text.specs.Making.{IsFirstFaultOfLines}
use Rattle.vcard_changes.specs.declared.change.Change.{Change}
use Rattle.vcard_changes.specs.declared.conversion.Conversion.{Conversion}
use Rattle.contact_csv.specs.Carrying.{IsCarried, column_at}
use Rattle.contact_columns.specs.Cells.{cell_text}
use Rattle.contact_csv.specs.RowFaults.{has_names, has_nul, has_width, is_broken, is_empty_row}
use Rattle.contact_csv.specs.RowUids.{IsRowUid}
use Rattle.contact_csv.specs.declared.row_fault.RowFault.{RowFault}
use Rattle.contact_csv.specs.declared.row_fault.RowFault.TheVariants as row
use Rattle.contact_columns.specs.declared.columns.Column.{Column}
use Rattle.contact_csv.specs.declared.rows.ContactReader.{ContactReader}

-- The lines carry the text of each cell of the row, or a change reports the cell; their UID is one
-- of the row.
pub record IsContact (columns : List Column) (fields : List (List ℕ)) (lines : List Line)
    (changes : List Change) : Type 0 where
  pub cells : (place : ℕ) → place < length fields
      → IsCarried (column_at columns place) place (cell_text (get_or fields place [])) lines
      changes
  pub uid : IsRowUid columns (map cell_text fields) (uid_of lines)

-- The row's contact has lines that are no card, and the fault is the first of these lines.
pub record IsRefused (columns : List Column) (fields : List (List ℕ)) (fault : CardFault) : Type 0
  where
    pub lines : List Line
    pub changes : List Change
    pub contact : IsContact columns fields lines changes
    pub first : IsFirstFaultOfLines lines fault

-- The row has the fault.
abbrev pub IsFaulty : List Column → List (List ℕ) → RowFault → Type 0
IsFaulty columns fields row.Empty = is_empty_row fields ≡ true
IsFaulty columns fields row.Broken = is_broken fields ≡ true
IsFaulty columns fields (row.Nul place) = has_nul (get_or fields place []) ≡ true
IsFaulty columns fields (row.Width count) =
    (count ≡ length fields) × (has_width columns (map cell_text fields) ≡ false)
IsFaulty columns fields row.Header = has_names columns fields ≡ true
IsFaulty columns fields (row.Card fault) = IsRefused columns fields fault

-- What the row becomes: its contact, or the fault for which it isn't converted.
abbrev pub BecomesContact : List Column → List (List ℕ) → Result Conversion RowFault → Type 0
BecomesContact columns fields row = MatchResult row
    (λ made. IsContact columns fields made.card made.changes)
    (λ fault. IsFaulty columns fields fault)

-- the reader of records
abbrev pub rows_of : {R : Type 0} → ContactReader R → Reader R
rows_of reader = reader.rows

-- the columns that the header names
abbrev pub columns_of : {R : Type 0} → ContactReader R → List Column
columns_of reader = reader.columns.columns

-- the octet between fields
abbrev pub delimiter_of : {R : Type 0} → ContactReader R → ℕ
delimiter_of reader = (reader_config (rows_of reader)).delimiter

-- The reader has read one record of the source, after a byte order mark, and goes on after it.
pub record HasReadHeader {R : Type 0} (remaining : R → Option (List ℕ)) (source : R)
    (reader : ContactReader R) : Type 0 where
  pub start : Reader R
  pub source_is : source_of remaining start ≡ option_map strip_bom (remaining source)
  pub state : reader_state start ≡ st.StartRecord
  pub found : Bool
  pub fields : List (List ℕ)
  pub took : ReadRecord remaining start (rows_of reader) found fields

-- The reader takes the fields of the next record as they are.
pub record IsReady {R : Type 0} (reader : ContactReader R) : Type 0 where
  pub plain : reader_trim (rows_of reader) ≡ trim.None
  pub ready : Ready (rows_of reader)
