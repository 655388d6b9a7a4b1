-- What became of a part of a file.
use Rattle.std.specs.Prelude.{ℕ, Bool, ◌≡◌, ◌≢◌, ◌≤◌, List, [], ◌∷◌, ◌++◌, Option, None, Some}
use Rattle.std.specs.Prelude.{length, map, take}
use Rattle.std.specs.List.{AllByRecursion, AllPairs}
use Rattle.card_conversion.specs.Accounts.{AccountsFor}
use Rattle.card_conversion.specs.ContactFates as contacts
use Rattle.card_conversion.specs.Fates.{Entry, cards_of}
use Rattle.card_conversion.specs.LineEnds.{with_line_feeds}
use Rattle.convert_report.specs.declared.ledger.Summary.{Summary}
use Rattle.contact_columns.specs.declared.columns.Column.{Column}
use Rattle.convert_posts.specs.declared.part.CardRow.{CardRow}
use Rattle.convert_posts.specs.declared.part.Kind.TheVariants.{Cards, Contacts, Rows}
use Rattle.convert_posts.specs.declared.part.Part.{Part}
use Rattle.convert_posts.specs.declared.part.ReportLine.{ReportLine}
use Rattle.vcard_lines.specs.declared.line.Line.{Line}
use Rattle.vcard_text.specs.Cards.{IsCard, canonical_text, uid_of}

-- ---- the rows of cards

-- the UID and the text of a row
abbrev pub row_text : CardRow → List ℕ × List ℕ
row_text row = (row.uid, row.vcard)

-- the UID and the canonical text of a card
abbrev pub card_text : List Line → List ℕ × List ℕ
card_text card = (uid_of card, canonical_text card)

-- the rows have the UIDs and the canonical texts of these cards, in order
abbrev pub AreRowsOf : List (List Line) → List CardRow → Type 0
AreRowsOf cards rows = map row_text rows ≡ map card_text cards

-- the row of the card comes after those before
abbrev pub AddsRow : List Line → List CardRow → List CardRow → Type 0
AddsRow card before after =
    (row : CardRow) × (row_text row ≡ card_text card) × (after ≡ before ++ row ∷ [])

-- ---- what was converted

-- The rows are those of the cards that a conversion of the input's pieces wrote, and the summary
-- counts the pieces.
abbrev pub IsOfPieces : Option (List ℕ) → Summary → List CardRow → Type 0
IsOfPieces input summary rows =
    (entries : List Entry) × AccountsFor input entries summary × AreRowsOf (cards_of entries) rows

-- The rows are those of the cards that a conversion of contacts wrote, and the summary counts them.
pub record IsOfContacts (summary : Summary) (rows : List CardRow) : Type 0 where
  pub columns : List Column
  pub entries : List contacts.RowEntry
  pub fates : contacts.HaveFates columns [] entries
  pub distinct : AllPairs (λ a b. a ≢ b) (map uid_of (contacts.cards_of entries))
  pub cards : AllByRecursion IsCard (contacts.cards_of entries)
  pub counts : summary ≡ contacts.summary_of entries
  pub are_rows : AreRowsOf (contacts.cards_of entries) rows

-- a summary of so many cards that aren't carried, and of no other card
abbrev pub only_refused : ℕ → Summary
only_refused count = record { written = 0; changed = 0; refused = count }

-- nothing was converted yet, as more of the file has to be known
pub record IsOpen (part : Part) : Type 0 where
  pub taken : part.taken ≡ 0
  pub summary : part.summary ≡ only_refused 0
  pub report : part.report ≡ []
  pub rows : part.rows ≡ []

-- the one card or row that was taken isn't carried, and the report says so
pub record IsPassed (part : Part) : Type 0 where
  pub summary : part.summary ≡ only_refused 1
  pub line : ReportLine
  pub report : part.report ≡ line ∷ []
  pub rows : part.rows ≡ []

-- What became of the octets that were taken: the rows are those of cards that a conversion wrote.
-- Of vCards it converted exactly these octets, of which perhaps each carriage return ends a line; of
-- the texts in rows it isn't known which.
-- Or nothing was taken; or one card or row, which isn't carried.
pub data AreConverted (body : List ℕ) (part : Part) : Type 0 where
  of_cards : (returns : Bool) → part.kind ≡ Cards
      → IsOfPieces (Some (with_line_feeds returns (take part.taken body))) part.summary part.rows
      → AreConverted body part
  of_export : part.kind ≡ Rows → IsOfPieces None part.summary part.rows → AreConverted body part
  of_contacts : part.kind ≡ Contacts → IsOfContacts part.summary part.rows
      → AreConverted body part
  of_open : IsOpen part → AreConverted body part
  of_passed : IsPassed part → AreConverted body part

-- What became of the front of a body.
pub record IsPart (body : List ℕ) (part : Part) : Type 0 where
  pub within : part.taken ≤ length body
  pub converted : AreConverted body part
