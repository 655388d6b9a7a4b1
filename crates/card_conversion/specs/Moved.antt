-- A card under a UID of its own, where an earlier card of its file has the same UID.
use Rattle.std.specs.Prelude.{ℕ, ◌≡◌, ◌++◌, Bool, List, [], ◌∷◌, map, flat_map, codes, count_by}
use Rattle.std.specs.Prelude.{if◌then◌else◌, nat_lt}
use Rattle.base_types.specs.Octets.{line_feed}
use Rattle.import_text.specs.declared.raw_line.RawLine.{RawLine}
use Rattle.vcard_import.specs.Conversions.{left_out_lines}
use Rattle.vcard_import.specs.LeftOut.{has_left_out, is_left_out}
use Rattle.vcard_changes.specs.declared.change.Change.{Change}
use Rattle.vcard_lines.specs.declared.line.Line.{Line}
use Rattle.vcard_text.specs.Cards.{IsCard, canonical_text, line_is_named}
use Rattle.vcard_changes.specs.DerivedUid.{derived_uid}
use Rattle.vcard_changes.specs.declared.conversion.Conversion.{Conversion}

-- the logical line, with a line feed after it
abbrev pub ended_line : RawLine → List ℕ
ended_line line = line.octets ++ line_feed ∷ []

-- more than 1,000 of the changes say that a line is left out
abbrev pub are_many : List Change → Bool
are_many changes = nat_lt 1000 (count_by is_left_out changes)

-- What a card is carried without: the logical lines of its octets that the changes call left out.
-- If they are more than 1,000, all its octets stand for them.
abbrev pub left_out_text : List ℕ → List Change → List ℕ
left_out_text octets changes =
    if has_left_out changes
    then (if are_many changes then octets else flat_map ended_line (left_out_lines octets changes))
    else []

-- The UID of its own that a card gets that was made of the octets: that of its canonical text, with
-- what it is carried without after it. So two cards have the same one only if they have the same
-- lines, and are carried without the same, but for a collision of SHA-1.
unfoldable pub own_uid : List ℕ → Conversion → List ℕ
own_uid octets made =
    derived_uid (canonical_text made.card ++ left_out_text octets made.changes)

-- the line; if it is the UID, with this value
abbrev pub line_under : List ℕ → Line → Line
line_under uid line =
    if line_is_named (codes "UID") line
    then record { group = line.group; name = line.name; params = line.params; value = uid }
    else line

-- the lines of a card under the UID
abbrev pub lines_under : List ℕ → List Line → List Line
lines_under uid card = map (line_under uid) card

-- The card, which was made of the octets, is the first one under a UID of its own, and otherwise
-- the same.
pub record IsMoved (octets : List ℕ) (first made : Conversion) : Type 0 where
  pub card : IsCard made.card
  pub card_is : made.card ≡ lines_under (own_uid octets first) first.card
  pub changes_are : made.changes ≡ first.changes
