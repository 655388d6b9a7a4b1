-- The octets that spell a line, and the lines that vCard 2.1 or 3.0 writes as vCard 4.0 does.
use Rattle.std.specs.Prelude.{ℕ, ◌≡◌, Bool, ◌&&◌, ◌||◌, not, List, codes, Option, Some}
use Rattle.std.specs.Prelude.{None, Result, Ok, Err, if◌then◌else◌}
use Rattle.std.specs.List.{list_any}
use Rattle.std.specs.Str.{IsUtf8, is_utf8, str_eq_ignore_ascii_case}
use Rattle.base_types.specs.Octets.{comma, backslash}
use Rattle.vcard_lines.specs.declared.fault.CardFault.{CardFault}
use Rattle.vcard_lines.specs.declared.line.Line.{Line}
use Rattle.vcard_lines.specs.declared.line.Param.{Param}
use Rattle.vcard_lines.specs.Parsing.{parse_line}
use Rattle.vcard_text.specs.Cards.{line_is_named, is_uid}
use Rattle.vcard_text.specs.Spelling.{has_no_params}
use Rattle.vcard_values.specs.Cuts.{has_octet}
use Rattle.vcard_values.specs.declared.version.Version.{Version}
use Rattle.vcard_values.specs.declared.version.Version.TheVariants.{Old, Third, Fourth}

-- the octets are UTF-8 and spell the line
pub record AreLine (octets : List ℕ) (line : Line) : Type 0 where
  pub utf8 : IsUtf8 octets
  pub spelled : parse_line octets ≡ Ok line

-- A UID, or a text without a comma. Before vCard 4.0 a comma in these texts needs no backslash.
abbrev pub is_plain_text : Line → Bool
is_plain_text line = line_is_named (codes "UID") line
    || (not (has_octet comma line.value)
    && (line_is_named (codes "FN") line || line_is_named (codes "NOTE") line
    || line_is_named (codes "TITLE") line || line_is_named (codes "ROLE") line))

-- The line is the same in each version: it is such a text, without parameters and backslashes.
abbrev pub is_same_in_all : Line → Bool
is_same_in_all line =
    has_no_params line.params && not (has_octet backslash line.value) && is_plain_text line

-- the parameter is ENCODING, in any case
abbrev pub is_encoding : Param → Bool
is_encoding param = str_eq_ignore_ascii_case param.name (codes "ENCODING")

-- The line says how its value is encoded, as no line of vCard 4.0 does: a binary value is a URI
-- there (RFC 6350, section 6.2.4), and any other is a text.
abbrev pub has_encoding : Line → Bool
has_encoding line = list_any is_encoding line.params

-- the version writes the line as vCard 4.0 does
abbrev pub is_same_in : Version → Line → Bool
is_same_in Old line = is_same_in_all line
is_same_in Third line = is_same_in_all line
is_same_in Fourth line = not (has_encoding line)

-- the line that was read, if it passes the test
abbrev pub line_if : (Line → Bool) → Result Line CardFault → Option Line
line_if passes (Ok line) = if passes line then Some line else None
line_if passes (Err fault) = None

-- the line that the octets spell, if they are UTF-8 and spell one that passes the test
abbrev pub line_where : (Line → Bool) → List ℕ → Option Line
line_where passes octets =
    if is_utf8 octets then line_if passes (parse_line octets) else None

-- the line that the octets spell, if the version writes it as vCard 4.0 does
abbrev pub same_line : Version → List ℕ → Option Line
same_line version octets = line_where (is_same_in version) octets

-- the same, if it is a legal UID
abbrev pub uid_line : Version → List ℕ → Option Line
uid_line version octets = line_where
    (λ line. is_same_in version line && (line_is_named (codes "UID") line && is_uid line.value))
    octets
