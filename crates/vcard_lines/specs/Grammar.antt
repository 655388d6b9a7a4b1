-- The grammar of a property line and its parts (RFC 6350, section 3.3).
use Rattle.std.specs.Prelude.{ℕ, ◌≡◌, ◌<◌, Bool, true, ◌||◌, ◌&&◌, ◌==◌, not, List, [], ◌∷◌, ◌++◌}
use Rattle.std.specs.Prelude.{length, if◌then◌else◌, Option, Some, None, IfSome, flat_map}
use Rattle.std.specs.List.{AllByRecursion}
use Rattle.std.specs.Str.{str_to_ascii_uppercase}
use Rattle.base_types.specs.Octets.{tab, quote, comma, hyphen, dot, colon, semicolon, equals}
use Rattle.base_types.specs.Octets.{is_letter, is_digit, is_control}
use Rattle.vcard_lines.specs.declared.line.ParamValue.{ParamValue}
use Rattle.vcard_lines.specs.declared.line.Param.{Param}
use Rattle.vcard_lines.specs.declared.line.Line.{Line}

-- a letter, a digit or a hyphen
abbrev pub is_name_octet : ℕ → Bool
is_name_octet b = is_letter b || is_digit b || b == hyphen

-- in quotes anything but a quote; otherwise no quote, semicolon, colon or comma
abbrev pub is_value_octet : Bool → ℕ → Bool
is_value_octet quoted b =
    not (b == quote || (not quoted && (b == semicolon || b == colon || b == comma)))

-- no control character except the tab
abbrev pub is_permitted : ℕ → Bool
is_permitted b = not (is_control b) || b == tab

-- each octet is in the class
abbrev pub AllInClass : (ℕ → Bool) → List ℕ → Type 0
AllInClass class octets = AllByRecursion (λ b. class b ≡ true) octets

-- a legal name of a group, a property or a parameter
pub record IsName (octets : List ℕ) : Type 0 where
  pub nonempty : 0 < length octets
  pub of_class : AllInClass is_name_octet octets

abbrev pub IsValue : ParamValue → Type 0
IsValue value = AllInClass (is_value_octet value.quoted) value.text

-- a parameter has a name and at least one value
pub record IsParam (param : Param) : Type 0 where
  pub name : IsName param.name
  pub nonempty : 0 < length param.values
  pub values : AllByRecursion IsValue param.values

-- a value, in quotes if it is quoted
abbrev pub value_text : ParamValue → List ℕ
value_text value = if value.quoted then quote ∷ value.text ++ quote ∷ [] else value.text

-- values separated by commas
abbrev pub values_text : List ParamValue → List ℕ
values_text [] = []
values_text (value ∷ values) = value_text value ++ flat_map (λ v. comma ∷ value_text v) values

-- a name, an equals sign and values
abbrev pub param_text : Param → List ℕ
param_text param = param.name ++ equals ∷ values_text param.values

-- parameters, each after a semicolon
abbrev pub params_text : List Param → List ℕ
params_text params = flat_map (λ p. semicolon ∷ param_text p) params

-- the group and its dot, if there is one
abbrev pub group_text : Option (List ℕ) → List ℕ
group_text None = []
group_text (Some group) = group ++ dot ∷ []

-- the text of a line with this name in place of its own
abbrev pub line_text_with_name : List ℕ → Line → List ℕ
line_text_with_name name line =
    group_text line.group ++ (name ++ (params_text line.params ++ colon ∷ line.value))

-- the text of a line
abbrev pub line_text : Line → List ℕ
line_text line = line_text_with_name line.name line

-- The text consists of the line's parts, with the name in any case. The line has the name in upper
-- case.
pub record HasLineParts (text : List ℕ) (line : Line) : Type 0 where
  pub name_written : List ℕ
  pub name : line.name ≡ str_to_ascii_uppercase name_written
  pub is_name : IsName name_written
  pub group : IfSome line.group IsName
  pub params : AllByRecursion IsParam line.params
  pub text_is : text ≡ line_text_with_name name_written line

-- The text spells the line.
pub record SpellsLine (text : List ℕ) (line : Line) : Type 0 where
  pub permitted : AllInClass is_permitted text
  pub parts : HasLineParts text line
