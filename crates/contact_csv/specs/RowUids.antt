-- The UID of a row's card (RFC 9562, section 5.5; RFC 6350, section 6.7.6).
use Rattle.std.specs.Prelude.{ℕ, ◌≡◌, ◌<◌, ◌+◌, Bool, true, false, not, ◌&&◌, ◌||◌, List, [], ◌∷◌}
use Rattle.std.specs.Prelude.{◌++◌, codes, bytes_eq, get_or, length, if◌then◌else◌}
use Rattle.vcard_changes.specs.DerivedUid.{derived_uid}
use Rattle.contact_columns.specs.Cells.{is_void}
use Rattle.contact_columns.specs.declared.columns.Column.{Column}
use Rattle.contact_csv.specs.Carrying.{column_at}

-- ASCII's unit separator and record separator
abbrev pub unit_separator : ℕ
unit_separator = 31

abbrev pub record_separator : ℕ
record_separator = 30

-- the octets of a cell: none if it has no value or its column is left out, and else the name of its
-- column and its text, with a separator after each
abbrev pub cell_octets : Column → List ℕ → List ℕ
cell_octets column text = if column.is_left_out || is_void text then []
    else column.name ++ unit_separator ∷ text ++ record_separator ∷ []

-- the octets of the cells with these texts, of which the first is in the column at this place
unfoldable pub octets_from : List Column → ℕ → List (List ℕ) → List ℕ
octets_from columns place [] = []
octets_from columns place (text ∷ texts) =
    cell_octets (column_at columns place) text ++ octets_from columns (place + 1) texts

-- urn:uuid: and the UUID of the row's cells that have a value, with the names of their columns
abbrev pub row_uid : List Column → List (List ℕ) → List ℕ
row_uid columns texts = derived_uid (octets_from columns 0 texts)

-- the column has UIDs, and isn't left out
abbrev pub is_uid_column : Column → Bool
is_uid_column column = not column.is_left_out && bytes_eq column.property (codes "UID")

-- the column has what its program tells contacts apart by, and isn't left out
abbrev pub is_id_column : Column → Bool
is_id_column column = not column.is_left_out && bytes_eq column.known (codes "Id")

-- The UID that the cell of the column gives to its row: its text in a column of UIDs; or the UUID
-- of the name of the column and the cell, if it has a value, in a column that tells contacts apart.
pub data IsOwnUid (column : Column) (text uid : List ℕ) : Type 0 where
  of_text : is_uid_column column ≡ true → uid ≡ text → IsOwnUid column text uid
  of_identifier : is_id_column column ≡ true → is_void text ≡ false
      → uid ≡ derived_uid (cell_octets column text) → IsOwnUid column text uid

-- The UID of the row's card: that of its cells, or one that a cell of the row gives.
pub data IsRowUid (columns : List Column) (texts : List (List ℕ)) (uid : List ℕ) : Type 0 where
  of_cells : uid ≡ row_uid columns texts → IsRowUid columns texts uid
  of_cell : (place : ℕ) → place < length texts
      → IsOwnUid (column_at columns place) (get_or texts place []) uid → IsRowUid columns texts uid
