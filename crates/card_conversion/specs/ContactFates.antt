-- What became of the rows of a file of contacts.
use Rattle.std.specs.Prelude.{ℕ, List, [], ◌∷◌, ◌++◌, flat_map, fold}
use Rattle.std.specs.List.{Contains}
use Rattle.vcard_lines.specs.declared.line.Line.{Line}
use Rattle.vcard_text.specs.Cards.{IsCard, uid_of}
use Rattle.vcard_changes.specs.declared.conversion.Conversion.{Conversion}
use Rattle.convert_report.specs.Counts.{nothing_counted, with_refused, with_written}
use Rattle.convert_report.specs.declared.ledger.Summary.{Summary}
use Rattle.contact_csv.specs.Contacts.{IsContact, IsFaulty}
use Rattle.contact_csv.specs.declared.row_fault.RowFault.{RowFault}
use Rattle.contact_csv.specs.declared.row_fault.RowFault.TheVariants as row
use Rattle.contact_columns.specs.declared.columns.Column.{Column}
use Rattle.card_conversion.specs.declared.contacts.fate.RowFate.{RowFate}
use Rattle.card_conversion.specs.declared.contacts.fate.RowFate.TheVariants.{Refused, Repeated, Taken}
use Rattle.card_conversion.specs.declared.contacts.fate.RowFate.TheVariants.{Declined, Written}

-- The contact of a row with these fields, which is a card.
pub record IsRowContact (columns : List Column) (fields : List (List ℕ)) (made : Conversion)
    : Type 0 where
  pub card : IsCard made.card
  pub contact : IsContact columns fields made.card made.changes

-- The fate of a row after rows whose cards had these UIDs.
abbrev pub IsFate : List Column → List (List ℕ) → List (List ℕ) → RowFate → Type 0
IsFate columns uids fields (Refused fault) = IsFaulty columns fields fault
IsFate columns uids fields (Repeated made) =
    IsRowContact columns fields made × Contains uids (uid_of made.card)
IsFate columns uids fields (Taken made) =
    IsRowContact columns fields made × Contains uids (uid_of made.card)
IsFate columns uids fields (Declined made words) =
    IsRowContact columns fields made × (Contains uids (uid_of made.card) → ⊥)
IsFate columns uids fields (Written made) =
    IsRowContact columns fields made × (Contains uids (uid_of made.card) → ⊥)

-- the UID of a card that came to the sink
abbrev pub uids_of_fate : RowFate → List (List ℕ)
uids_of_fate (Refused fault) = []
uids_of_fate (Repeated made) = []
uids_of_fate (Taken made) = []
uids_of_fate (Declined made words) = uid_of made.card ∷ []
uids_of_fate (Written made) = uid_of made.card ∷ []

-- the card that was written
abbrev pub cards_of_fate : RowFate → List (List Line)
cards_of_fate (Refused fault) = []
cards_of_fate (Repeated made) = []
cards_of_fate (Taken made) = []
cards_of_fate (Declined made words) = []
cards_of_fate (Written made) = made.card ∷ []

-- the numbers after a row that isn't converted: one without a value is no loss
abbrev pub with_fault : Summary → RowFault → Summary
with_fault summary row.Empty = summary
with_fault summary row.Broken = with_refused summary
with_fault summary (row.Nul place) = with_refused summary
with_fault summary (row.Width count) = with_refused summary
with_fault summary row.Header = with_refused summary
with_fault summary (row.Card fault) = with_refused summary

-- the numbers after a row with this fate: one that an earlier row repeats is no loss
abbrev pub counted : Summary → RowFate → Summary
counted summary (Refused fault) = with_fault summary fault
counted summary (Repeated made) = summary
counted summary (Taken made) = with_refused summary
counted summary (Declined made words) = with_refused summary
counted summary (Written made) = with_written summary made

-- ---- all rows

-- the fields of a row, and what became of it
pub record RowEntry : Type 0 where
  pub fields : List (List ℕ)
  pub fate : RowFate

-- the cards that were written, in order
abbrev pub cards_of : List RowEntry → List (List Line)
cards_of entries = flat_map (λ entry. cards_of_fate entry.fate) entries

-- the UIDs of the cards that came to the sink, in order
abbrev pub uids_of : List RowEntry → List (List ℕ)
uids_of entries = flat_map (λ entry. uids_of_fate entry.fate) entries

-- the numbers after more rows
abbrev pub summary_after : Summary → List RowEntry → Summary
summary_after start entries = fold (λ summary entry. counted summary entry.fate) start entries

-- the numbers of all rows
abbrev pub summary_of : List RowEntry → Summary
summary_of entries = summary_after nothing_counted entries

-- Each row has its fate after those before it, of which the first come after these UIDs.
abbrev pub HaveFates : List Column → List (List ℕ) → List RowEntry → Type 0
HaveFates columns uids [] = Unit {0}
HaveFates columns uids (entry ∷ entries) = IsFate columns uids entry.fields entry.fate
    × HaveFates columns (uids ++ uids_of_fate entry.fate) entries
