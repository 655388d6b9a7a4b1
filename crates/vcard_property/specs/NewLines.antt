-- What a logical line of another program's card becomes by itself.
use Rattle.std.specs.Prelude.{ℕ, ◌≡◌, true, false, ◌⊎◌, List, codes}
use Rattle.import_text.specs.Encodings.{text_of}
use Rattle.vcard_lines.specs.TextValues.{unescaped_text}
use Rattle.vcard_lines.specs.declared.line.Line.{Line}
use Rattle.vcard_text.specs.Cards.{IsProperLine}
use Rattle.vcard_values.specs.KeptTexts.{kept_text}
use Rattle.vcard_values.specs.Values.{HasValueOf, is_known}
use Rattle.vcard_values.specs.declared.version.Version.{Version}
use Rattle.vcard_changes.specs.declared.change_kind.ChangeKind.{ChangeKind}
use Rattle.vcard_property.specs.Contents.{is_emptied}
use Rattle.vcard_property.specs.Kinds.{fits_kind}
use Rattle.vcard_property.specs.Names.{HasNameOf, has_clear_name}
use Rattle.vcard_property.specs.NewTypes.{HasTypesOf, has_clear_new_types}
use Rattle.vcard_property.specs.SameLines.{AreLine, is_same_in}

-- The line is what the octets spell, which the version writes as vCard 4.0 does.
pub record IsSame (version : Version) (octets : List ℕ) (line : Line) : Type 0 where
  pub spelled : AreLine octets line
  pub same : is_same_in version line ≡ true

-- The line is proper, and what is said of it fits its name. It has the name, the group and the types
-- of the octets as vCard 4.0 writes them, where they are clear.
pub record HasHeadOf (octets : List ℕ) (made : Line × ChangeKind) : Type 0 where
  pub proper : IsProperLine made.0
  pub kind : fits_kind made.1 made.0.name ≡ true
  pub named : has_clear_name octets ≡ true → HasNameOf octets made.0
  pub typed : has_clear_new_types octets ≡ true → HasTypesOf octets made.0

-- The line has the name, the group, the types and the value of the octets as vCard 4.0 writes them,
-- where they are clear. No other value is emptied.
pub record IsRewrittenLine (version : Version) (octets : List ℕ) (line : Line) : Type 0 where
  pub named : has_clear_name octets ≡ true → HasNameOf octets line
  pub typed : has_clear_new_types octets ≡ true → HasTypesOf octets line
  pub value : is_known octets ≡ true → HasValueOf version octets line.value
  pub content : is_known octets ≡ false → is_emptied octets line ≡ false

-- The line keeps the whole text of the octets under a name, but for control characters.
pub record KeepsText (name octets : List ℕ) (line : Line) : Type 0 where
  pub named : line.name ≡ name
  pub text : unescaped_text line.value ≡ kept_text (text_of octets)

-- The line is the same, it is rewritten, or it keeps the text of what can't be read.
abbrev pub Becomes : Version → List ℕ → Line → Type 0
Becomes version octets line = IsSame version octets line
    ⊎ (IsRewrittenLine version octets line ⊎ KeepsText (codes "X-UNREADABLE") octets line)
