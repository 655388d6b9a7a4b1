-- Parameters in vCard 3.0 (RFC 2426, section 4).
use Rattle.std.specs.Prelude.{ℕ, Bool, false, not, ◌||◌, ◌&&◌, ◌==◌, List, [], ◌∷◌, ◌++◌}
use Rattle.std.specs.Prelude.{codes, flat_map, if◌then◌else◌}
use Rattle.std.specs.List.{list_any}
use Rattle.base_types.specs.Octets.{colon, comma, equals, quote, semicolon}
use Rattle.vcard_lines.specs.declared.line.Param.{Param}
use Rattle.vcard_lines.specs.declared.line.ParamValue.{ParamValue}
use Rattle.vcard_export.specs.Forms.{has_only, is_param}
use Rattle.vcard_export.specs.Spellings.{spelled}
use Rattle.vcard_export.specs.declared.params.ParamRules.{ParamRules}
use Rattle.vcard_export.specs.declared.spelling.Spelling.TheVariants as spelling

abbrev pub is_label : Param → Bool
is_label param = is_param (codes "LABEL") param

abbrev pub is_type : Param → Bool
is_type param = is_param (codes "TYPE") param

-- the property is the preferred one (RFC 6350, section 5.3)
abbrev pub is_pref : Param → Bool
is_pref param = is_param (codes "PREF") param && has_only (codes "1") param

-- The parameter isn't written: it is VALUE and the value no longer is what it says, or it is a
-- label that becomes a line of its own.
abbrev pub is_left_out : ParamRules → Param → Bool
is_left_out rules param =
    (rules.drops_value_type && is_param (codes "VALUE") param)
    || (rules.drops_label && is_label param)

-- ---- values

abbrev pub needs_quotes : List ℕ → Bool
needs_quotes text = list_any (λ octet. octet == colon || octet == semicolon) text

-- The value is in double quotes if it was; but a type only if it must be, so that its commas
-- separate types.
abbrev pub is_quoted : Bool → ParamValue → Bool
is_quoted is_type value = value.quoted && (not is_type || needs_quotes value.text)

abbrev pub older_param_value : Bool → ParamValue → List ℕ
older_param_value is_type value =
    if is_quoted is_type value then quote ∷ spelled spelling.Param value.text ++ quote ∷ []
    else spelled spelling.Param value.text

-- values separated by commas
abbrev pub older_param_values : Bool → List ParamValue → List ℕ
older_param_values is_type [] = []
older_param_values is_type (value ∷ values) =
    older_param_value is_type value ++ flat_map (λ v. comma ∷ older_param_value is_type v) values

-- ---- parameters

-- A parameter after a semicolon, unless it is left out. That a property is the preferred one is a
-- type in vCard 3.0 (RFC 2426, section 3.2.1).
abbrev pub older_param : ParamRules → Param → List ℕ
older_param rules param =
    if is_left_out rules param then []
    else (if is_pref param then codes ";TYPE=pref"
    else semicolon ∷ param.name ++ equals ∷ older_param_values (is_type param) param.values)

abbrev pub older_params : ParamRules → List Param → List ℕ
older_params rules params = flat_map (older_param rules) params

-- ---- what the line of a label has of its address

abbrev pub type_param : Param → List ℕ
type_param param =
    if is_type param
    then older_param (record { drops_value_type = false; drops_label = false }) param else []

-- the types
abbrev pub type_params : List Param → List ℕ
type_params params = flat_map type_param params

abbrev pub label_values : List ParamValue → List ℕ
label_values values = flat_map (λ value. spelled spelling.Label value.text) values

abbrev pub label_of : Param → List ℕ
label_of param = if is_label param then label_values param.values else []

-- the text of the label, as the value of a property
abbrev pub label_text : List Param → List ℕ
label_text params = flat_map label_of params
