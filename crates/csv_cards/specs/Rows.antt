-- The rows of a CSV text, as the library `csv` defines its records (RFC 4180), and the header rows
-- of the two forms.
use Rattle.std.specs.Prelude.{ℕ, List, [], ◌∷◌, codes, get_or}
use Rattle.csv.specs.Reading.{AreRecords, Reached, default_config, strip_bom}
use Rattle.csv.specs.declared.parser.State.{State}
use Rattle.csv.specs.declared.parser.State.TheVariants as st
use Rattle.csv_cards.specs.declared.form.Form.{Form}
use Rattle.csv_cards.specs.declared.form.Form.TheVariants as form

-- the octets of each field
abbrev pub Row : Type 0
Row = List (List ℕ)

-- These are all rows of the text, without its byte order mark, if it has one.
abbrev pub AreRows : List ℕ → List Row → Type 0
AreRows text rows = AreRecords default_config st.StartRecord (strip_bom text) rows

-- The text's rows begin with these.
pub record RowsBeginWith (text : List ℕ) (rows : List Row) : Type 0 where
  pub state : State
  pub rest : List ℕ
  pub reached : Reached default_config st.StartRecord (strip_bom text) rows state rest

-- the first row of a text in this form
abbrev pub header : Form → Row
header form.Cards = codes "uid" ∷ codes "vcard" ∷ []
header form.Columns =
    codes "uid" ∷ codes "fn" ∷ codes "family" ∷ codes "given" ∷ codes "email" ∷ codes "tel"
    ∷ codes "org" ∷ codes "note" ∷ []

-- the field at the index, counted from 0; empty if there are fewer fields
abbrev pub row_field : Row → ℕ → List ℕ
row_field row place = get_or row place []
