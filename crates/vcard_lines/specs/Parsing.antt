-- Reads a property line from left to right, as the code does. Public contracts cite only
-- `parse_line`: it returns a line exactly if `SpellsLine` of Grammar.antt holds for it, by the law
-- `property_line_is_read`.
use Rattle.std.specs.Prelude.{ℕ, Bool, true, false, ◌==◌, List, length, drop, take_while, Option}
use Rattle.std.specs.Prelude.{Some, None, Result, Ok, Err, if◌then◌else◌}
use Rattle.std.specs.List.{list_all}
use Rattle.std.specs.Str.{str_to_ascii_uppercase}
use Rattle.base_types.specs.Octets.{quote, comma, dot, colon, semicolon, equals}
use Rattle.vcard_lines.specs.declared.fault.CardFault.{CardFault}
use Rattle.vcard_lines.specs.declared.fault.CardFault.TheVariants.{BadChar, BadLine}
use Rattle.vcard_lines.specs.declared.line.ParamValue.{ParamValue}
use Rattle.vcard_lines.specs.declared.line.Param.{Param}
use Rattle.vcard_lines.specs.declared.line.Line.{Line}
use Rattle.vcard_lines.specs.ParseSteps.{◌>>=◌, strip_byte, or_bad_line, parse_then_others}
use Rattle.vcard_lines.specs.ParseSteps.{parse_many}
use Rattle.vcard_lines.specs.Grammar.{is_name_octet, is_value_octet, is_permitted}

-- the leading octets of a class, and the text after them
abbrev pub leading : (ℕ → Bool) → List ℕ → List ℕ
leading class text = take_while class text

abbrev pub after_leading : (ℕ → Bool) → List ℕ → List ℕ
after_leading class text = drop (length (take_while class text)) text

unfoldable pub parse_name : List ℕ → Result (List ℕ × List ℕ) CardFault
parse_name text = if length (leading is_name_octet text) == 0 then Err BadLine
    else Ok (leading is_name_octet text, after_leading is_name_octet text)

abbrev pub param_value : Bool → List ℕ → ParamValue
param_value quoted text = record { quoted = quoted; text = text }

-- a value whose opening quote was read
unfoldable pub parse_quoted : List ℕ → Result (ParamValue × List ℕ) CardFault
parse_quoted text = do
  rest ← or_bad_line (strip_byte quote (after_leading (is_value_octet true) text))
  Ok (param_value true (leading (is_value_octet true) text), rest)

abbrev pub parse_value_by : Option (List ℕ) → List ℕ → Result (ParamValue × List ℕ) CardFault
parse_value_by None text =
    Ok (
      param_value false (leading (is_value_octet false) text),
      after_leading (is_value_octet false) text,
    )
parse_value_by (Some inside) text = parse_quoted inside

unfoldable pub parse_param_value : List ℕ → Result (ParamValue × List ℕ) CardFault
parse_param_value text = parse_value_by (strip_byte quote text) text

unfoldable pub parse_values : List ℕ → Result (List ParamValue × List ℕ) CardFault
parse_values text =
    parse_then_others (parse_param_value text)
    (λ rest. parse_many comma parse_param_value (length rest) rest)

abbrev pub make_param : List ℕ → List ParamValue → Param
make_param name values = record { name = name; values = values }

unfoldable pub parse_param : List ℕ → Result (Param × List ℕ) CardFault
parse_param text = do
  name ← parse_name text
  rest ← or_bad_line (strip_byte equals name.1)
  values ← parse_values rest
  Ok (make_param name.0 values.0, values.1)

unfoldable pub parse_params : List ℕ → Result (List Param × List ℕ) CardFault
parse_params text = parse_many semicolon parse_param (length text) text

-- the group, if there is one, the name, and the text after it
unfoldable pub parse_head_by : List ℕ → List ℕ → Option (List ℕ)
    → Result (Option (List ℕ) × List ℕ × List ℕ) CardFault
parse_head_by first rest None = Ok (None, first, rest)
parse_head_by first rest (Some more) = do
  name ← parse_name more
  Ok (Some first, name.0, name.1)

unfoldable pub parse_head : List ℕ → Result (Option (List ℕ) × List ℕ × List ℕ) CardFault
parse_head text = do
  first ← parse_name text
  parse_head_by first.0 first.1 (strip_byte dot first.1)

abbrev pub make_line : Option (List ℕ) → List ℕ → List Param → List ℕ → Line
make_line group name params value =
    record { group = group; name = str_to_ascii_uppercase name; params = params; value = value }

unfoldable pub parse_parts : List ℕ → Result Line CardFault
parse_parts text = do
  head ← parse_head text
  params ← parse_params head.2
  value ← or_bad_line (strip_byte colon params.1)
  Ok (make_line head.0 head.1 params.0 value)

-- the line that a text spells, or the text's first fault
unfoldable pub parse_line : List ℕ → Result Line CardFault
parse_line text = if list_all is_permitted text then parse_parts text else Err BadChar
