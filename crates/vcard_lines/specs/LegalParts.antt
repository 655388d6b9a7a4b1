-- Lines whose group, name and parameters match the grammar, whatever their values; and Boolean
-- tests of parts, which agree with the grammar by the law `tests_agree_with_the_grammar`.
use Rattle.std.specs.Prelude.{ℕ, Bool, true, ◌&&◌, nat_lt, List, length, Option, Some, None, IfSome}
use Rattle.std.specs.List.{AllByRecursion, list_all}
use Rattle.vcard_lines.specs.declared.line.ParamValue.{ParamValue}
use Rattle.vcard_lines.specs.declared.line.Param.{Param}
use Rattle.vcard_lines.specs.declared.line.Line.{Line}
use Rattle.vcard_lines.specs.Grammar.{is_name_octet, is_value_octet, IsName, IsParam}

-- the group, the name and the parameters match the grammar
pub record HasLegalParts (line : Line) : Type 0 where
  pub name : IsName line.name
  pub group : IfSome line.group IsName
  pub params : AllByRecursion IsParam line.params

-- ---- tests of the parts

abbrev pub is_name : List ℕ → Bool
is_name octets = nat_lt 0 (length octets) && list_all is_name_octet octets

abbrev pub is_value : ParamValue → Bool
is_value value = list_all (is_value_octet value.quoted) value.text

abbrev pub is_param : Param → Bool
is_param param =
    is_name param.name && nat_lt 0 (length param.values) && list_all is_value param.values

abbrev pub is_group_name : Option (List ℕ) → Bool
is_group_name None = true
is_group_name (Some group) = is_name group

abbrev pub has_legal_parts : Line → Bool
has_legal_parts line =
    is_name line.name && is_group_name line.group && list_all is_param line.params
