-- The rows of the cards of contacts.
use Rattle.std.proofs.Common.{◌≡◌, ◌≢◌, ◌++◌, ℕ, List, Option, map}
use Rattle.std.specs.Prelude.{flat_map}
use Rattle.std.specs.List.{AllByRecursion, AllPairs}
use Rattle.std.specs.Io.KnownBytes.{Appends}
use Rattle.vcard_lines.specs.declared.line.Line.{Line}
use Rattle.vcard_text.specs.Cards.{IsCard, uid_of}
use Rattle.csv_cards.specs.Reading.{TextHasCards}
use Rattle.csv_cards.specs.Writing.{csv_text}
use Rattle.csv_cards.specs.declared.form.Form.TheVariants.{Cards}
use Rattle.convert_report.specs.declared.ledger.Summary.{Summary}
use Rattle.card_conversion.specs.RowTexts.{card_row_text, header_row_text}
use Rattle.card_conversion.proofs.RowLemmas.{rows_written}
use Rattle.contact_csv.specs.declared.rows.ContactReader.{ContactReader}
use Rattle.card_conversion.specs.ContactAccounts.{ConvertsContacts, ContactsToRows}
use Rattle.card_conversion.specs.ContactFates.{cards_of}

-- what writing the row of a card does
abbrev row_step : {A : Type 0} → (A → Option (List ℕ)) → List Line → A → A → Type 0
row_step contents card before after =
    Appends (contents before) (contents after) (card_row_text card)

pub all_rows : {A R : Type 0} (contents : A → Option (List ℕ)) (remaining : R
    → Option (List ℕ)) (reader : ContactReader R) (before : Option (List ℕ)) (start now : A)
    (summary : Summary)
    → Appends before (contents start) header_row_text
    → ConvertsContacts (row_step contents) remaining reader start now summary
    → ((cards : List (List Line)) → csv_text Cards cards ≡ header_row_text ++ flat_map card_row_text
    cards)
    → ((cards : List (List Line)) → AllByRecursion IsCard cards
    → AllPairs (λ a b. a ≢ b) (map uid_of cards) → TextHasCards (csv_text Cards cards) cards)
    → ContactsToRows remaining reader before (contents now) summary
all_rows contents remaining reader before start now summary header converts text read = record {
  entries = converts.entries;
  accounts = converts.accounts;
  rows = rows_written contents (cards_of converts.entries) before start now header converts.written
      converts.accounts.cards converts.accounts.distinct text read;
}
