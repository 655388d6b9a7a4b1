-- The state of a conversion between two rows.
use Rattle.std.specs.Prelude.{ℕ, ◌≡◌, ◌++◌, [], true, false, List}
use Rattle.std.specs.Prelude.{Option, Some, None, Result, Ok, Err}
use Rattle.std.specs.FinMap as finite
use Rattle.std.specs.List.{Contains}
use Rattle.csv.specs.Reading.{ReadRecord}
use Rattle.csv.specs.declared.reader.Reader.{Reader}
use Rattle.base_types.specs.TextMaps.{text_cmp}
use Rattle.contact_csv.specs.declared.row_fault.RowFault.{RowFault}
use Rattle.vcard_lines.specs.declared.line.Line.{Line}
use Rattle.vcard_text.specs.Cards.{IsCard, uid_of}
use Rattle.vcard_changes.specs.declared.conversion.Conversion.{Conversion}
use Rattle.card_conversion.specs.Deliveries.{HasUids, WritesInTurn}
use Rattle.convert_report.specs.declared.ledger.Summary.{Summary}
use Rattle.contact_csv.specs.Contacts.{BecomesContact, IsReady, columns_of, rows_of}
use Rattle.contact_columns.specs.declared.columns.Column.{Column}
use Rattle.contact_csv.specs.declared.rows.ContactReader.{ContactReader}
use Rattle.card_conversion.specs.declared.contacts.fate.RowFate.{RowFate}
use Rattle.card_conversion.specs.declared.contacts.fate.RowFate.TheVariants.{Refused, Repeated, Taken}
use Rattle.card_conversion.specs.declared.contacts.fate.RowFate.TheVariants.{Declined, Written}
use Rattle.card_conversion.specs.ContactAccounts.{ReadsInTurn}
use Rattle.card_conversion.specs.ContactFates.{RowEntry, HaveFates, cards_of, cards_of_fate}
use Rattle.card_conversion.specs.ContactFates.{summary_after, uids_of, uids_of_fate}

-- What reading the next row did to the reader.
abbrev pub ReadsRow : {R : Type 0} → (R → Option (List ℕ)) → ContactReader R → ContactReader R
    → Option (Result Conversion RowFault) → Type 0
ReadsRow remaining before after None =
    (fields : List (List ℕ)) × ReadRecord remaining (rows_of before) (rows_of after) false fields
ReadsRow remaining before after (Some row) =
    (fields : List (List ℕ)) × ReadRecord remaining (rows_of before) (rows_of after) true fields
    × BecomesContact (columns_of before) fields row

-- the fate of what was read, after cards with these UIDs
abbrev pub IsFateOf : List (List ℕ) → Result Conversion RowFault → RowFate → Type 0
IsFateOf uids row (Refused fault) = row ≡ Err fault
IsFateOf uids row (Repeated made) =
    (row ≡ Ok made) × IsCard made.card × Contains uids (uid_of made.card)
IsFateOf uids row (Taken made) =
    (row ≡ Ok made) × IsCard made.card × Contains uids (uid_of made.card)
IsFateOf uids row (Declined made words) =
    (row ≡ Ok made) × IsCard made.card × (Contains uids (uid_of made.card) → ⊥)
IsFateOf uids row (Written made) =
    (row ≡ Ok made) × IsCard made.card × (Contains uids (uid_of made.card) → ⊥)

-- What was read has the fate after rows whose cards have the UIDs of the map.
abbrev pub TakesRow : {A : Type 0} → (List Line → A → A → Type 0) → Result Conversion RowFault
    → finite.FinMap text_cmp (Unit {0}) → finite.FinMap text_cmp (Unit {0}) → A → A → RowFate
    → Type 0
TakesRow writes row map_before map_after before after fate =
    (uids : List (List ℕ)) → HasUids map_before uids
    → IsFateOf uids row fate × HasUids map_after (uids ++ uids_of_fate fate)
    × WritesInTurn writes (cards_of_fate fate) before after

-- Rows were read, after cards with these UIDs and these numbers. Each has its fate, and the cards
-- among them are written in order.
pub record Progress {A R : Type 0} (writes : List Line → A → A → Type 0)
    (remaining : R → Option (List ℕ)) (columns : List Column) (first : Reader R)
    (uids : List (List ℕ)) (start : Summary) (before now : A)
    (reader : ContactReader R) (map : finite.FinMap text_cmp (Unit {0})) (summary : Summary)
    : Type 0 where
  pub entries : List RowEntry
  pub read : ReadsInTurn remaining entries first (rows_of reader)
  pub ready : IsReady reader
  pub same_columns : columns_of reader ≡ columns
  pub fates : HaveFates columns uids entries
  pub known : HasUids map (uids ++ uids_of entries)
  pub written : WritesInTurn writes (cards_of entries) before now
  pub counts : summary ≡ summary_after start entries
