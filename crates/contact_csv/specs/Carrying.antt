-- How a card carries a cell: which line has its text, or which change reports it (RFC 6350,
-- sections 3.3 and 5).
use Rattle.std.specs.Prelude.{ℕ, ◌≡◌, ◌⊎◌, Bool, true, false, ◌||◌, ◌&&◌, List, [], ◌++◌, codes}
use Rattle.std.specs.Prelude.{bytes_eq, map, get_or, Option, Some, None}
use Rattle.std.specs.List.{list_any, Contains}
use Rattle.std.specs.Str.{str_to_ascii_lowercase}
use Rattle.vcard_lines.specs.declared.line.Line.{Line}
use Rattle.vcard_lines.specs.declared.line.Param.{Param}
use Rattle.vcard_lines.specs.TextValues.{escaped_value, components}
use Rattle.vcard_changes.specs.declared.change.Change.{Change}
use Rattle.vcard_changes.specs.declared.change_kind.ChangeKind.{ChangeKind}
use Rattle.vcard_changes.specs.declared.change_kind.ChangeKind.TheVariants.{Rewritten, KeptAside}
use Rattle.vcard_changes.specs.declared.change_kind.ChangeKind.TheVariants.{Unreadable}
use Rattle.contact_columns.specs.Cells.{is_void}
use Rattle.contact_columns.specs.Components.{component_of}
use Rattle.contact_columns.specs.declared.columns.Column.{Column}
use Rattle.contact_values.specs.Carets.{caret_text}
use Rattle.contact_values.specs.Labels.{label_types}

-- ---- the text of a line

abbrev pub param_has : List ℕ → Param → Bool
param_has text param = list_any (λ value. bytes_eq value.text text) param.values

-- the text is the line's value, as it is or escaped, or a component of it, or a parameter's value
abbrev pub has_text : List ℕ → Line → Bool
has_text text line =
    bytes_eq line.value text || bytes_eq line.value (escaped_value text)
    || list_any (λ part. bytes_eq part text) (components line.value)
    || list_any (param_has (caret_text text)) line.params

-- a line of the property has the text
abbrev pub is_held : List ℕ → List ℕ → List Line → Bool
is_held property text lines =
    list_any (λ line. bytes_eq line.name property && has_text text line) lines

-- ---- components

-- the text is the component of the line's value at the index
abbrev pub has_component : ℕ → List ℕ → Line → Bool
has_component index text line = bytes_eq (get_or (components line.value) index []) text

-- a line of the property has the text in its component at the index
abbrev pub is_component_held : List ℕ → ℕ → List ℕ → List Line → Bool
is_component_held property index text lines =
    list_any (λ line. bytes_eq line.name property && has_component index text line) lines

-- ---- several values in a cell

-- The part has no value, or a line of the property has it, maybe without Google's `* `.
pub data IsPartHeld (property part : List ℕ) (lines : List Line) : Type 0 where
  void_part : is_void part ≡ true → IsPartHeld property part lines
  whole_part : is_held property part lines ≡ true → IsPartHeld property part lines
  starred_part : (text : List ℕ) → part ≡ codes "* " ++ text → is_held property text lines ≡ true
      → IsPartHeld property part lines

-- The part has no value, or a line of the property has it in the component at the index.
pub data IsComponentPart (property : List ℕ) (index : ℕ) (part : List ℕ) (lines : List Line)
    : Type 0 where
  void_component : is_void part ≡ true → IsComponentPart property index part lines
  held_component : is_component_held property index part lines ≡ true
      → IsComponentPart property index part lines

-- The text is parts with the separator between them, each of which is held.
pub data ArePartsHeld (separator : List ℕ) (IsHeld : List ℕ → Type 0) : List ℕ → Type 0 where
  last_part : (part : List ℕ) → IsHeld part → ArePartsHeld separator IsHeld part
  next_part : (text part rest : List ℕ) → text ≡ part ++ separator ++ rest → IsHeld part
      → ArePartsHeld separator IsHeld rest → ArePartsHeld separator IsHeld text

-- ---- labels

-- the values of the parameter TYPE are these
abbrev pub has_types : List (List ℕ) → Line → Type 0
has_types types line = (param : Param) × Contains line.params param × (param.name ≡ codes "TYPE")
    × (map (λ value. value.text) param.values ≡ types)

-- The label, maybe without Google's `* `.
pub data IsLabel (cell label : List ℕ) : Type 0 where
  plain_label : cell ≡ label → IsLabel cell label
  starred_label : cell ≡ codes "* " ++ label → IsLabel cell label

-- A line has the types that the label is, or the label is the name of a line, in any case, or the
-- text of a line X-ABLABEL.
pub data IsLabelHeld (label : List ℕ) (lines : List Line) : Type 0 where
  as_types : (line : Line) → Contains lines line → has_types (label_types label) line
      → IsLabelHeld label lines
  as_name : (line : Line) → Contains lines line
      → str_to_ascii_lowercase line.name ≡ str_to_ascii_lowercase label → IsLabelHeld label lines
  as_text : is_held (codes "X-ABLABEL") label lines ≡ true → IsLabelHeld label lines

-- ---- cells

abbrev pub change : ℕ → ChangeKind → Change
change place kind = record { place = place; kind = kind }

abbrev pub is_date_name : List ℕ → Bool
is_date_name name = bytes_eq name (codes "BDAY") || bytes_eq name (codes "ANNIVERSARY")

abbrev pub is_date_column : List ℕ → Bool
is_date_column property = is_date_name property || bytes_eq property (codes "X-ABDATE")

-- The name begins with X-.
abbrev pub IsAsideName : List ℕ → Type 0
IsAsideName name = (rest : List ℕ) × (name ≡ codes "X-" ++ rest)

-- the component of its property that the cells of the column are
abbrev pub component_in : Column → Option ℕ
component_in column = component_of column.property column.known

-- The card carries the text of the cell at the index of the row, in the column.
pub data IsCarried (column : Column) (place : ℕ) (text : List ℕ) (lines : List Line)
    (changes : List Change) : Type 0 where
  -- the user leaves its column out
  left_out : column.is_left_out ≡ true → IsCarried column place text lines changes
  -- it has no value
  no_value : is_void text ≡ true → IsCarried column place text lines changes
  -- its column has a component, and a line of the property has the text in this component
  in_component : (index : ℕ) → component_in column ≡ Some index
      → is_component_held column.property index text lines ≡ true
      → IsCarried column place text lines changes
  -- it has several addresses, and lines of ADR have the values between the separators in the
  -- component of its column
  in_addresses : (index : ℕ) → component_in column ≡ Some index → column.property ≡ codes "ADR"
      → ArePartsHeld (codes " ::: ") (λ part. IsComponentPart column.property index part lines) text
      → IsCarried column place text lines changes
  -- its column has no component, and a line of the property has the text
  whole : component_in column ≡ None → is_held column.property text lines ≡ true
      → IsCarried column place text lines changes
  -- its column has no component, and lines of the property have the values between the separators
  in_parts : (separator : List ℕ) → component_in column ≡ None
      → ArePartsHeld separator (λ part. IsPartHeld column.property part lines) text
      → (separator ≡ codes " ::: ")
      ⊎ ((separator ≡ codes ";") × (column.property ≡ codes "CATEGORIES"))
      → IsCarried column place text lines changes
  -- it is the label of a line
  as_label : (label : List ℕ) → column.property ≡ codes "X-ABLABEL" → IsLabel text label
      → IsLabelHeld label lines → IsCarried column place text lines changes
  -- it is in a column of dates, a line is a date, and the cell is reported
  as_date : is_date_column column.property ≡ true
      → list_any (λ line. is_date_name line.name) lines ≡ true
      → Contains changes (change place Rewritten) → IsCarried column place text lines changes
  -- it is in a column of dates, a line that is a date has the text, and the cell is reported as one
  -- that isn't read
  as_date_text : is_date_column column.property ≡ true
      → list_any (λ line. is_date_name line.name && has_text text line) lines ≡ true
      → Contains changes (change place Unreadable) → IsCarried column place text lines changes
  -- a line whose name begins with X- has the text, and the cell is reported
  kept_aside : (line : Line) → Contains lines line → IsAsideName line.name
      → line.value ≡ escaped_value text → Contains changes (change place KeptAside)
      → IsCarried column place text lines changes

-- the column of cells to which the header gives none
abbrev pub extra_column : Column
extra_column = record {
  name = codes "COLUMN";
  known = codes "COLUMN";
  property = [];
  is_left_out = false;
}

-- the column at the index
abbrev pub column_at : List Column → ℕ → Column
column_at columns place = get_or columns place extra_column
