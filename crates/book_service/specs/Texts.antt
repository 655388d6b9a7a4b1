-- Parsing the texts in commands: a card, CSV rows, and sync tokens.
use Rattle.std.specs.Prelude.{ℕ, ◌≡◌, ◌≢◌, ◌⊎◌, List, [], Option, Some, None, Result, Ok, Err}
use Rattle.vcard_lines.specs.declared.fault.CardFault.{CardFault}
use Rattle.vcard_lines.specs.declared.line.Line.{Line}
use Rattle.vcard_text.specs.Cards.{uid_of}
use Rattle.vcard_text.specs.FirstFaults.{IsFirstFaultOfText}
use Rattle.vcard_text.specs.Spelling.{Spells}
use Rattle.csv_cards.specs.declared.fault.CsvFault.{CsvFault}
use Rattle.csv_cards.specs.Causes.{cause_number}
use Rattle.csv_cards.specs.Reading.{TextHasCards, IsFirstRowFault}
use Rattle.book_model.specs.declared.refusal.Refusal.{Refusal}
use Rattle.book_model.specs.declared.refusal.Refusal.TheVariants.{BadCard, UidMismatch, BadImport}
use Rattle.book_model.specs.declared.refusal.Refusal.TheVariants.{BadToken}
use Rattle.book_model.specs.declared.refusal.TokenCause.TheVariants.{Malformed}
use Rattle.book_model.specs.declared.token.Token.{Token}
use Rattle.sync_core.specs.TokenTexts.{IsTokenText}

-- the text isn't a card, and the refusal has its first fault
pub record IsBadCard (text : List ℕ) (refusal : Refusal) : Type 0 where
  pub fault : CardFault
  pub first : IsFirstFaultOfText text fault
  pub refusal_is : refusal ≡ BadCard fault

-- the body has a bad row, and the refusal has the first one and its cause
pub record HasBadRow (body : List ℕ) (refusal : Refusal) : Type 0 where
  pub fault : CsvFault
  pub first : IsFirstRowFault body fault
  pub refusal_is : refusal ≡ BadImport fault.row (cause_number fault.cause)

-- the text is a card with another UID
pub record IsCardOfOtherUid (uid text : List ℕ) (refusal : Refusal) : Type 0 where
  pub card : List Line
  pub spelled : Spells text card
  pub other : uid_of card ≢ uid
  pub refusal_is : refusal ≡ UidMismatch

-- the result of parsing a text as the card of a UID: the card, or the refusal that comes first
abbrev pub ReadsCard : List ℕ → List ℕ → Result (List Line) Refusal → Type 0
ReadsCard uid text (Ok card) = Spells text card × (uid_of card ≡ uid)
ReadsCard uid text (Err refusal) = IsBadCard text refusal ⊎ IsCardOfOtherUid uid text refusal

-- the result of parsing rows: their cards, or the refusal for the first bad row
abbrev pub ReadsCards : List ℕ → Result (List (List Line)) Refusal → Type 0
ReadsCards body (Ok cards) = TextHasCards body cards
ReadsCards body (Err refusal) = HasBadRow body refusal

-- the result of parsing a token: none for the empty text, else the token, or a refusal if the text
-- isn't a token
abbrev pub ReadsToken : List ℕ → Result (Option Token) Refusal → Type 0
ReadsToken text (Ok None) = text ≡ []
ReadsToken text (Ok (Some token)) = IsTokenText text token
ReadsToken text (Err refusal) =
    (text ≢ []) × ((token : Token) → IsTokenText text token → ⊥) × (refusal ≡ BadToken Malformed)
