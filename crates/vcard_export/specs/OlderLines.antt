-- The lines of vCard 3.0 (RFC 2426) for a line of vCard 4.0 (RFC 6350), unfolded.
use Rattle.std.specs.Prelude.{ℕ, Bool, ◌&&◌, List, ◌∷◌, ◌++◌, codes}
use Rattle.base_types.specs.Octets.{colon}
use Rattle.vcard_lines.specs.declared.line.Line.{Line}
use Rattle.vcard_lines.specs.Grammar.{group_text}
use Rattle.vcard_text.specs.Cards.{line_is_named}
use Rattle.vcard_export.specs.Forms.{form_of}
use Rattle.vcard_export.specs.Names.{older_name}
use Rattle.vcard_export.specs.OlderParams.{label_text, older_params, type_params}
use Rattle.vcard_export.specs.OlderValues.{added_params, older_value, restates}
use Rattle.vcard_export.specs.Spellings.{spelled}
use Rattle.vcard_export.specs.declared.params.ParamRules.{ParamRules}
use Rattle.vcard_export.specs.declared.spelling.Spelling.TheVariants as spelling

-- the line is an address whose label becomes a line of its own (RFC 2426, section 3.2.2)
abbrev pub splits_label : Bool → Line → Bool
splits_label splits_labels line = splits_labels && line_is_named (codes "ADR") line

-- which parameters of the line aren't written
abbrev pub rules_of : Bool → Line → ParamRules
rules_of splits_labels line = record {
  drops_value_type = restates (form_of line);
  drops_label = splits_label splits_labels line;
}

-- The line: its group; its name, or that of vCard 3.0; the parameters that its value needs there,
-- and its own; and its value.
abbrev pub older_line : Bool → Line → List ℕ
older_line splits_labels line =
    group_text line.group ++ (older_name line ++ (added_params (form_of line) line
    ++ (older_params (rules_of splits_labels line) line.params
    ++ colon ∷ older_value (form_of line) line.value)))

-- the line of the label of an address, with the types of the address
abbrev pub label_line : Line → List ℕ
label_line line =
    group_text line.group ++ (codes "LABEL" ++ (type_params line.params
    ++ colon ∷ label_text line.params))

-- a line that gives the value of an FN as the family name (RFC 2426, section 3.1.2)
abbrev pub name_line : List ℕ → List ℕ
name_line name = codes "N:" ++ (spelled spelling.Component name ++ codes ";;;;")
