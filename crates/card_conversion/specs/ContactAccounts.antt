-- What the conversion of a file of contacts did.
use Rattle.std.specs.Prelude.{ℕ, ◌≡◌, ◌≢◌, true, false, List, [], ◌∷◌, Option, map}
use Rattle.std.specs.List.{AllByRecursion, AllPairs}
use Rattle.csv.specs.Reading.{ReadRecord}
use Rattle.csv.specs.declared.reader.Reader.{Reader}
use Rattle.vcard_lines.specs.declared.line.Line.{Line}
use Rattle.vcard_text.specs.Cards.{IsCard, uid_of}
use Rattle.card_conversion.specs.Accounts.{WritesRows}
use Rattle.card_conversion.specs.Deliveries.{WritesInTurn}
use Rattle.convert_report.specs.declared.ledger.Summary.{Summary}
use Rattle.contact_csv.specs.Contacts.{columns_of, rows_of}
use Rattle.contact_csv.specs.declared.rows.ContactReader.{ContactReader}
use Rattle.card_conversion.specs.ContactFates.{RowEntry, HaveFates, cards_of, summary_of}

-- the records were read one after another
abbrev pub ReadsInTurn : {R : Type 0} → (R → Option (List ℕ)) → List RowEntry → Reader R → Reader R
    → Type 0
ReadsInTurn remaining [] before after = after ≡ before
ReadsInTurn {R} remaining (entry ∷ entries) before after =
    (between : Reader R) × ReadRecord remaining before between true entry.fields
    × ReadsInTurn remaining entries between after

-- The rows are all records that the reader has left, in order, and each has its fate. The cards
-- that were written have different UIDs, and each keeps the rules of a card. The summary counts the
-- rows.
pub record AccountsForRows {R : Type 0} (remaining : R → Option (List ℕ)) (reader : ContactReader R)
    (entries : List RowEntry) (summary : Summary) : Type 0 where
  pub last : Reader R
  pub read : ReadsInTurn remaining entries (rows_of reader) last
  pub end : Reader R
  pub fields : List (List ℕ)
  pub no_more : ReadRecord remaining last end false fields
  pub fates : HaveFates (columns_of reader) [] entries
  pub distinct : AllPairs (λ a b. a ≢ b) (map uid_of (cards_of entries))
  pub cards : AllByRecursion IsCard (cards_of entries)
  pub counts : summary ≡ summary_of entries

-- The contacts were converted row by row, and the cards among them were written in order.
pub record ConvertsContacts {A R : Type 0} (writes : List Line → A → A → Type 0)
    (remaining : R → Option (List ℕ)) (reader : ContactReader R) (before after : A)
    (summary : Summary) : Type 0 where
  pub entries : List RowEntry
  pub accounts : AccountsForRows remaining reader entries summary
  pub written : WritesInTurn writes (cards_of entries) before after

-- The contacts were converted row by row, and the cards among them were written as rows.
pub record ContactsToRows {R : Type 0} (remaining : R → Option (List ℕ)) (reader : ContactReader R)
    (before after : Option (List ℕ)) (summary : Summary) : Type 0 where
  pub entries : List RowEntry
  pub accounts : AccountsForRows remaining reader entries summary
  pub rows : WritesRows (cards_of entries) before after
