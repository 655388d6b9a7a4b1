-- The UID that a card of another program has (RFC 6350, section 6.7.6).
use Rattle.std.specs.Prelude.{Bool, false, ◌&&◌, ◌||◌, List, [], ◌∷◌, Option, Some, None}
use Rattle.std.specs.Prelude.{if◌then◌else◌}
use Rattle.import_text.specs.declared.raw_line.RawLine.{RawLine}
use Rattle.vcard_lines.specs.declared.line.Line.{Line}
use Rattle.vcard_property.specs.SameLines.{uid_line}
use Rattle.vcard_values.specs.declared.version.Version.{Version}
use Rattle.vcard_import.specs.Delimiters.{begins_card}

-- the line if there is one, and otherwise the other
abbrev pub or_line : Option Line → Option Line → Option Line
or_line (Some line) other = Some line
or_line None other = other

-- The first of the logical lines that spells a legal UID as it is in vCard 4.0, if no second card
-- begins before it. The flag says whether a card began before these lines.
unfoldable pub first_uid_after : Version → Bool → List RawLine → Option Line
first_uid_after version begun [] = None
first_uid_after version begun (raw ∷ raws) =
    if begun && begins_card raw.octets then None
    else or_line (uid_line version raw.octets)
    (first_uid_after version (begun || begins_card raw.octets) raws)

-- the first line of a card that spells a UID
abbrev pub first_uid : Version → List RawLine → Option Line
first_uid version raws = first_uid_after version false raws
