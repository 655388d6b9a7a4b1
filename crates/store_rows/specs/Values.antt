-- The numbers, texts and cards of column values.
use Rattle.std.specs.Prelude.{◌≡◌, ℕ, ℤ, pos, negsuc, true, List, [], Option, Some, None}
use Rattle.std.specs.Prelude.{IsUtf8, Result, Ok, Err}
use Rattle.sqlite.specs.declared.types.Value.{Value}
use Rattle.sqlite.specs.declared.types.Value.TheVariants.{Null, Int, Real, Text, Blob}
use Rattle.vcard_lines.specs.declared.fault.CardFault.{CardFault}
use Rattle.vcard_lines.specs.declared.line.Line.{Line}
use Rattle.vcard_text.specs.CardOfText.{card_of_text}
use Rattle.vcard_text.specs.Cards.{canonical_text, is_uid}

-- ---- numbers

-- the number; 0 if it is negative
abbrev pub natural : ℤ → ℕ
natural (pos n) = n
natural (negsuc n) = 0

-- the number is not negative
abbrev pub IsNatural : ℤ → Type 0
IsNatural z = z ≡ pos (natural z)

-- ---- texts

-- the text of a value; empty if it is not a text
abbrev pub text_or_empty : Value → List ℕ
text_or_empty Null = []
text_or_empty (Int n) = []
text_or_empty (Real x) = []
text_or_empty (Text t) = t
text_or_empty (Blob b) = []

-- the text of a value; none if it is not a text
abbrev pub text_or_none : Value → Option (List ℕ)
text_or_none Null = None
text_or_none (Int n) = None
text_or_none (Real x) = None
text_or_none (Text t) = Some t
text_or_none (Blob b) = None

-- a legal UID (RFC 6350, section 6.7.6): UTF-8 of 1 to 255 octets, without a tab
pub record IsLegalUid (uid : List ℕ) : Type 0 where
  pub utf8 : IsUtf8 uid
  pub legal : is_uid uid ≡ true

-- ---- cards

abbrev pub lines_or_none : Result (List Line) CardFault → List Line
lines_or_none (Ok lines) = lines
lines_or_none (Err fault) = []

-- the lines of the card in a text; empty if the text is not a card
abbrev pub text_card : List ℕ → List Line
text_card text = lines_or_none (card_of_text text)

-- the text is the canonical text of a card
pub record IsCanonical (text : List ℕ) : Type 0 where
  pub lines : List Line
  pub spelled : card_of_text text ≡ Ok lines
  pub canonical : text ≡ canonical_text lines

-- the text is the canonical text of this card
pub record IsTextOf (text : List ℕ) (card : List Line) : Type 0 where
  pub canonical : IsCanonical text
  pub reads_back : text_card text ≡ card
