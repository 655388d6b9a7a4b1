-- Labels of addresses. In vCard 4.0 a label is a parameter of its address (RFC 6350, section
-- 6.3.1).
use Rattle.std.specs.Prelude.{◌≡◌, Bool, true, ◌&&◌, [], ◌∷◌, ◌++◌, codes}
use Rattle.std.specs.List.{list_any}
use Rattle.std.specs.Str.{str_eq_ignore_ascii_case}
use Rattle.vcard_lines.specs.declared.line.Line.{Line}
use Rattle.vcard_lines.specs.declared.line.Param.{Param}
use Rattle.vcard_text.specs.Cards.{line_is_named}

-- the parameter is LABEL, in any case
abbrev pub is_label : Param → Bool
is_label param = str_eq_ignore_ascii_case param.name (codes "LABEL")

-- the line has the parameter LABEL
abbrev pub has_label : Line → Bool
has_label line = list_any is_label line.params

-- the line is an address with a label
abbrev pub is_labelled : Line → Bool
is_labelled line = line_is_named (codes "ADR") line && has_label line

-- the line with one more parameter, after the others
abbrev pub with_param : Param → Line → Line
with_param param line = record {
  group = line.group;
  name = line.name;
  params = line.params ++ param ∷ [];
  value = line.value;
}

-- the new line is the address with a label, otherwise unchanged
pub record GotLabel (line new : Line) : Type 0 where
  pub label : Param
  pub is_label : is_label label ≡ true
  pub address : line_is_named (codes "ADR") line ≡ true
  pub new_is : new ≡ with_param label line
