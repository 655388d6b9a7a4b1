-- The parameters TYPE and PREF of a line in vCard 4.0 (RFC 6350, sections 5.3 and 5.6).
use Rattle.std.specs.Prelude.{ℕ, ◌≡◌, Bool, true, false, not, ◌&&◌, ◌||◌, List, [], ◌∷◌, ◌++◌, codes}
use Rattle.std.specs.Prelude.{filter, if◌then◌else◌, length, nat_lt}
use Rattle.std.specs.Str.{str_eq_ignore_ascii_case}
use Rattle.import_text.specs.RawLines.{is_encoded_as}
use Rattle.vcard_lines.specs.declared.line.Line.{Line}
use Rattle.vcard_lines.specs.declared.line.Param.{Param}
use Rattle.vcard_lines.specs.declared.line.ParamValue.{ParamValue}
use Rattle.vcard_values.specs.Forms.{names_uri, says}
use Rattle.vcard_values.specs.Types.{has_clear_types, is_preferred, type_value, types_of}
use Rattle.vcard_values.specs.Values.{may_be_base64}
use Rattle.vcard_property.specs.Names.{has_clear_name, is_agent}

-- ---- the parameters

-- the parameter is TYPE, in any case
abbrev pub is_type_param : Param → Bool
is_type_param param = str_eq_ignore_ascii_case param.name (codes "TYPE")

-- the parameter is PREF, in any case
abbrev pub is_pref_param : Param → Bool
is_pref_param param = str_eq_ignore_ascii_case param.name (codes "PREF")

-- The parameter is neither TYPE nor PREF. The line may have a PREF of its own, or it may not.
abbrev pub is_other_param : Bool → Param → Bool
is_other_param may_have_pref param =
    not (is_type_param param) && (may_have_pref || not (is_pref_param param))

-- TYPE with these values, if there are any
abbrev pub type_params : List ParamValue → List Param
type_params values =
    if nat_lt 0 (length values) then record { name = codes "TYPE"; values = values } ∷ [] else []

-- the parameter of the preferred property
abbrev pub pref_param : Param
pref_param = record {
  name = codes "PREF";
  values = record { quoted = false; text = codes "1" } ∷ [];
}

-- PREF=1, if the property is preferred
abbrev pub pref_params : Bool → List Param
pref_params true = pref_param ∷ []
pref_params false = []

-- TYPE, PREF=1, and what of these is another parameter
abbrev pub new_params : List ParamValue → Bool → Bool → List Param → List Param
new_params types is_preferred may_have_pref others =
    (type_params types ++ pref_params is_preferred) ++ filter (is_other_param may_have_pref) others

-- ---- the types

-- an AGENT that is a URI gets a type, as the RELATED that it becomes
abbrev pub agent_types : List ℕ → List ParamValue
agent_types line =
    if is_agent line && says names_uri line then type_value (codes "agent") ∷ [] else []

-- the types that the line gets
abbrev pub new_types : List ℕ → List ParamValue
new_types line = types_of line ++ agent_types line

-- The name and the types of the line are clear, and it has no base64: of that of a picture the
-- types may name its format, which is no type in vCard 4.0.
abbrev pub has_clear_new_types : List ℕ → Bool
has_clear_new_types line =
    has_clear_name line && has_clear_types line && not (may_be_base64 line)

-- The logical line may have a PREF of its own, as vCard 4.0 has it.
abbrev pub may_have_pref : List ℕ → Bool
may_have_pref line = is_encoded_as (codes "PREF=") line || not (has_clear_types line)

-- The line has one TYPE with the types of the logical line, or none if it has none; and PREF=1, if
-- the logical line is preferred. Among its other parameters there is no TYPE, and no PREF unless
-- the logical line may have one.
pub record HasTypesOf (octets : List ℕ) (line : Line) : Type 0 where
  pub others : List Param
  pub params : line.params
      ≡ new_params (new_types octets) (is_preferred octets) (may_have_pref octets) others
