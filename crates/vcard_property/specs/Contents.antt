-- Whether there is something in what the octets hold, and in a line that was made of them.
use Rattle.std.specs.Prelude.{ℕ, Bool, not, ◌&&◌, ◌||◌, ◌==◌, List, nat_le}
use Rattle.std.specs.Char.{is_ascii_graphic}
use Rattle.std.specs.List.{list_any}
use Rattle.base_types.specs.Octets.{comma, semicolon}
use Rattle.vcard_lines.specs.declared.line.Line.{Line}
use Rattle.vcard_lines.specs.declared.line.Param.{Param}
use Rattle.vcard_lines.specs.declared.line.ParamValue.{ParamValue}
use Rattle.vcard_values.specs.ValueTexts.{value_of}
use Rattle.vcard_property.specs.Labels.{is_label}

-- A visible character of ASCII, or an octet of any other character. Commas and semicolons part
-- values, and are nothing by themselves.
abbrev pub is_content : ℕ → Bool
is_content octet = (is_ascii_graphic octet || nat_le 128 octet)
    && not (octet == comma || octet == semicolon)

-- there is something in the value
abbrev pub has_content : List ℕ → Bool
has_content value = list_any is_content value

-- there is something in a value of a parameter
abbrev pub has_text : ParamValue → Bool
has_text value = has_content value.text

-- there is something in the parameter
abbrev pub is_full : Param → Bool
is_full param = list_any has_text param.values

-- the parameter is a label, and there is something in it
abbrev pub is_full_label : Param → Bool
is_full_label param = is_label param && is_full param

abbrev pub has_full_label : Line → Bool
has_full_label line = list_any is_full_label line.params

-- there is something in the value of the line, or in its label
abbrev pub line_has_content : Line → Bool
line_has_content line = has_content line.value || has_full_label line

-- The octets have something after their first colon, and the line has nothing.
abbrev pub is_emptied : List ℕ → Line → Bool
is_emptied octets line = has_content (value_of octets) && not (line_has_content line)
