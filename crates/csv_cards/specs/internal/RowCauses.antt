-- The causes for which a row with the right number of UTF-8 fields isn't a card, regardless of the
-- rows before it. Only private functions need them.
use Rattle.std.specs.Prelude.{◌≡◌, ◌≢◌, ◌⊎◌, []}
use Rattle.vcard_lines.specs.declared.fault.CardFault.{CardFault}
use Rattle.csv_cards.specs.declared.cause.CsvCause.{CsvCause}
use Rattle.csv_cards.specs.declared.cause.CsvCause.TheVariants as cause
use Rattle.csv_cards.specs.Rows.{Row}
use Rattle.csv_cards.specs.Columns.{name_in}
use Rattle.csv_cards.specs.Reading.{RowHasOtherUid, ColumnsMislistCard, RowMisspellsCard}

-- a row with a UID and a card's text
abbrev pub IsTextCause : Row → CsvCause → Type 0
IsTextCause row why =
    ((fault : CardFault) × (why ≡ cause.BadCard fault) × RowMisspellsCard row fault)
    ⊎ ((why ≡ cause.UidMismatch) × RowHasOtherUid row)

-- a row of columns
abbrev pub IsColumnsCause : Row → CsvCause → Type 0
IsColumnsCause row why =
    ((why ≡ cause.EmptyName) × (name_in row ≡ []))
    ⊎ ((fault : CardFault) × (why ≡ cause.BadCard fault) × (name_in row ≢ [])
    × ColumnsMislistCard row fault)
