-- Labels of one's own, as Samsung's telephones write them: `X-CUSTOM(CHARSET=UTF-8,ENCODING=
-- QUOTED-PRINTABLE,=42=C3=BC=72=6F)`. No standard has this parameter. In vCard 4.0 the label is a
-- value of TYPE (RFC 6350, section 5.6).
use Rattle.std.specs.Prelude.{ℕ, Bool, not, ◌&&◌, ◌==◌, nat_le, nat_lt, List, [], ◌∷◌, codes}
use Rattle.std.specs.Prelude.{true, drop, length, if◌then◌else◌, Option, None, Some}
use Rattle.std.specs.List.{list_all}
use Rattle.std.specs.Str.{is_utf8}
use Rattle.base_types.specs.Octets.{quote}
use Rattle.import_text.specs.QuotedPrintable.{quoted_printable}
use Rattle.import_text.specs.RawLines.{begins_with_word}
use Rattle.vcard_lines.specs.declared.line.ParamValue.{ParamValue}
use Rattle.vcard_values.specs.Cuts.{before}

-- the parenthesis after the label
abbrev pub closing_parenthesis : ℕ
closing_parenthesis = 41

abbrev pub caret : ℕ
caret = 94

-- what the parameter begins with
abbrev pub label_front : List ℕ
label_front = codes "X-CUSTOM(CHARSET=UTF-8,ENCODING=QUOTED-PRINTABLE,"

-- the parameter is such a label
abbrev pub is_own_label : List ℕ → Bool
is_own_label part = begins_with_word label_front part

-- the octets of the label
abbrev pub own_label : List ℕ → List ℕ
own_label part =
    quoted_printable (before closing_parenthesis (drop (length label_front) part))

-- The octet is no control character, no double quote and no caret. So it stands for itself in
-- double quotes (RFC 6350, section 3.3; RFC 6868).
abbrev pub is_label_octet : ℕ → Bool
is_label_octet octet = nat_le 32 octet && not (octet == 127)
    && not (octet == quote) && not (octet == caret)

-- the octets are a text that stands for itself in double quotes
abbrev pub is_label_text : List ℕ → Bool
is_label_text label = is_utf8 label && nat_lt 0 (length label) && list_all is_label_octet label

-- the label as a value of TYPE, if it stands for itself
abbrev pub label_type : List ℕ → Option ParamValue
label_type label =
    if is_label_text label then Some (record { quoted = true; text = label }) else None

-- the value of TYPE that the parameter is, if it is such a label
abbrev pub own_label_type : List ℕ → Option ParamValue
own_label_type part = if is_own_label part then label_type (own_label part) else None

-- the values of TYPE that it is
abbrev pub values_in : Option ParamValue → List ParamValue
values_in None = []
values_in (Some value) = value ∷ []
