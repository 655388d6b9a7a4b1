-- Which card the logical lines of another program's card become, and which changes are reported.
-- What a logical line becomes by itself is in NewLines.antt of vcard_property.
use Rattle.std.specs.Prelude.{ℕ, ◌≡◌, Bool, true, false, List, [], ◌∷◌, ◌++◌, map, codes, Some, ◌⊎◌}
use Rattle.std.specs.Prelude.{filter, if◌then◌else◌, ◌||◌}
use Rattle.std.specs.List.{list_any}
use Rattle.std.specs.Str.{trim}
use Rattle.import_text.specs.RawLines.{raw_lines, is_encoded_as}
use Rattle.import_text.specs.declared.raw_line.RawLine.{RawLine}
use Rattle.vcard_lines.specs.declared.line.Line.{Line}
use Rattle.vcard_text.specs.Cards.{has_line_named, line_is_named, uid_of}
use Rattle.vcard_text.specs.Making.{upper_lines, AreTooLongCardLines}
use Rattle.vcard_text.specs.Spelling.{without_bom}
use Rattle.vcard_property.specs.Labels.{GotLabel}
use Rattle.vcard_changes.specs.Lines.{extension_line, plain_line}
use Rattle.vcard_property.specs.NewLines.{Becomes, KeepsText}
use Rattle.vcard_property.specs.SameLines.{AreLine, has_encoding}
use Rattle.vcard_changes.specs.declared.change_kind.ChangeKind.TheVariants.{Added}
use Rattle.vcard_values.specs.declared.version.Version.{Version}
use Rattle.vcard_import.specs.Delimiters.{is_delimiter}
use Rattle.vcard_changes.specs.DerivedUid.{derived_uid}
use Rattle.vcard_import.specs.Ends.{without_end}
use Rattle.vcard_import.specs.FirstUid.{first_uid}
use Rattle.vcard_import.specs.Labels.{HaveAddresses, fits}
use Rattle.vcard_import.specs.LeftOut.{has_left_out, is_left_out_at, may_go}
use Rattle.vcard_import.specs.Folds.{folding_of}
use Rattle.vcard_import.specs.Versions.{version_of}
use Rattle.vcard_changes.specs.declared.change.Change.{Change}
use Rattle.vcard_changes.specs.declared.fault.ImportFault.{ImportFault}
use Rattle.vcard_changes.specs.declared.fault.ImportFault.TheVariants.{Memory, TooLong, Charset}

-- one of the lines says how its value is encoded
abbrev pub has_encodings : List Line → Bool
has_encodings lines = list_any has_encoding lines

-- ---- the logical lines

-- A card has no line of this name in its lines, has it at most once, or only if it is a group.
abbrev pub may_be_aside : Line → Bool
may_be_aside line = line_is_named (codes "BEGIN") line || line_is_named (codes "END") line
    || line_is_named (codes "VERSION") line || line_is_named (codes "UID") line
    || line_is_named (codes "KIND") line || line_is_named (codes "MEMBER") line

-- the new line is one that the card may not have, with X- before its name
pub record IsAside (line new : Line) : Type 0 where
  pub may_be_aside : may_be_aside line ≡ true
  pub new_is : new ≡ extension_line line

-- the line is an FN of nothing but white space, and the new one is an FN
pub record GotName (line new : Line) : Type 0 where
  pub named : line_is_named (codes "FN") line ≡ true
  pub blank : trim line.value ≡ []
  pub new_named : new.name ≡ codes "FN"

-- The new line is the line, the line that is kept aside, the address with a label, or an FN with a
-- name for one without it.
abbrev pub IsPlaced : Line → Line → Type 0
IsPlaced line new = (new ≡ line) ⊎ (IsAside line new ⊎ (GotLabel line new ⊎ GotName line new))

-- the line is what the octets become by themselves, as the card has it
pub record IsLineOf (version : Version) (octets : List ℕ) (new : Line) : Type 0 where
  pub line : Line
  pub becomes : Becomes version octets line
  pub placed : IsPlaced line new

-- The line is that of the octets, or it keeps their text, as of a card within the card.
abbrev pub IsMadeOf : Version → List ℕ → Line → Type 0
IsMadeOf version octets line = IsLineOf version octets line ⊎ KeepsText (codes "X-AGENT") octets line

-- The first line of the card is the one that the octets spell, and is made of them. The rest holds
-- for the other lines.
pub record IsKept (version : Version) (octets : List ℕ) (Rest : List Line → Type 0)
    (card : List Line) : Type 0 where
  pub line : Line
  pub others : List Line
  pub card_is : card ≡ line ∷ others
  pub same : AreLine octets line
  pub made : IsMadeOf version octets line
  pub rest : Rest others

-- The first line of the card isn't what the octets of the logical line spell, and the first change
-- is at the place of that logical line, of a kind that fits the line. A value that is known is
-- kept. The rest holds for the other lines and changes.
pub record IsChanged (version : Version) (raw : RawLine) (Rest : List Line → List Change → Type 0)
    (card : List Line) (changes : List Change) : Type 0 where
  pub line : Line
  pub others : List Line
  pub card_is : card ≡ line ∷ others
  pub differs : AreLine raw.octets line → ⊥
  pub change : Change
  pub more : List Change
  pub changes_are : changes ≡ change ∷ more
  pub place : change.place ≡ raw.place
  pub kind : fits change.kind line ≡ true
  pub made : IsMadeOf version raw.octets line
  pub rest : Rest others more

-- The logical line is a label, a picture or a sound without a line of its own. The first change is
-- at its place and says what became of it. The rest holds for the other changes.
pub record IsGone (raw : RawLine) (Rest : List Change → Type 0) (changes : List Change)
    : Type 0 where
  pub change : Change
  pub more : List Change
  pub changes_are : changes ≡ change ∷ more
  pub place : change.place ≡ raw.place
  pub may_go : may_go change.kind raw ≡ true
  pub rest : Rest more

-- Each logical line becomes one line of the card, in order; only one that begins or ends a card or
-- gives its version may be missing, and one that the changes call joined to another or left out.
-- The changes are those of the logical lines that don't spell the line that they became, in order.
abbrev pub BecomeCard : Version → List RawLine → List Line → List Change → Type 0
BecomeCard version [] card changes = (card ≡ []) × (changes ≡ [])
BecomeCard version (raw ∷ raws) card changes =
    ((is_delimiter raw.octets ≡ true) × BecomeCard version raws card changes)
    ⊎ (IsKept version raw.octets (λ others. BecomeCard version raws others changes) card
    ⊎ (IsChanged version raw (λ others more. BecomeCard version raws others more) card changes
    ⊎ IsGone raw (λ more. BecomeCard version raws card more) changes))

-- ---- the lines that are added

-- the line that the lines lack, if none of them has the name
abbrev pub missing_line : List ℕ → List ℕ → List Line → List Line
missing_line name value lines =
    if has_line_named name lines then [] else plain_line name value ∷ []

-- the FN and the UID that the lines lack; the UID is that of the octets
abbrev pub missing_lines : List ℕ → List ℕ → List Line → List Line
missing_lines octets name lines =
    missing_line (codes "FN") name lines
    ++ missing_line (codes "UID") (derived_uid octets) lines

-- the change for a line that was added
abbrev pub addition : Line → Change
addition line = record { place = 0; kind = Added }

-- ---- the card

-- the logical lines of the octets but for the END:VCARD at their end; how they are folded depends
-- on the version, and a byte order mark is no part of the first
abbrev pub card_raw_lines : List ℕ → List RawLine
card_raw_lines octets = raw_lines (folding_of octets) (without_end (without_bom octets))

-- the logical lines of the octets that the changes call left out, in order
abbrev pub left_out_lines : List ℕ → List Change → List RawLine
left_out_lines octets changes = filter (is_left_out_at changes) (card_raw_lines octets)

-- The lines are those that the logical lines of the octets become, and then the FN and the UID that
-- they lack. The changes are those of these lines, and then one for each line that was added. For
-- each label that is joined an address got one. The first legal UID that a logical line spells is
-- the card's UID, if one does.
pub record IsConverted (octets : List ℕ) (card : List Line) (changes : List Change) : Type 0 where
  pub lines : List Line
  pub reported : List Change
  pub become : BecomeCard (version_of octets) (card_raw_lines octets) lines reported
  pub labels : HaveAddresses reported
  pub name : List ℕ
  pub card_is : card ≡ lines ++ missing_lines octets name lines
  pub changes_are : changes ≡ reported ++ map addition (missing_lines octets name lines)
  pub uid : (line : Line) → first_uid (version_of octets) (card_raw_lines octets) ≡ Some line
      → uid_of card ≡ line.value

-- The octets are converted to lines that would be a card if their canonical text weren't too long,
-- though none of them is left out for that.
pub record IsTooLong (octets : List ℕ) : Type 0 where
  pub lines : List Line
  pub changes : List Change
  pub converted : IsConverted octets lines changes
  pub whole : has_left_out changes ≡ false
  pub too_long : AreTooLongCardLines (upper_lines lines)

-- a line is left out only of a card that would be too long with it
abbrev pub LeavesOutIfLong : List ℕ → List Change → Type 0
LeavesOutIfLong octets changes = has_left_out changes ≡ true → IsTooLong octets

-- the head of the logical line has the word CHARSET
abbrev pub has_charset : RawLine → Bool
has_charset raw = is_encoded_as (codes "CHARSET") raw.octets

-- a logical line of the octets names a character set, as the fault says
abbrev pub HasCharset : List ℕ → ImportFault → Type 0
HasCharset octets Memory = ⊥
HasCharset octets TooLong = ⊥
HasCharset octets (Charset name) = list_any has_charset (card_raw_lines octets) ≡ true

-- The octets have the fault: they are too long, or they name a character set.
abbrev pub IsRefused : List ℕ → ImportFault → Type 0
IsRefused octets Memory = ⊥
IsRefused octets TooLong = IsTooLong octets
IsRefused octets (Charset name) = HasCharset octets (Charset name)
