-- Tests of the parts of a line, as the code makes them. Public contracts cite none of this.
use Rattle.std.specs.Prelude.{Bool, not, ◌&&◌}
use Rattle.std.specs.List.{list_all}
use Rattle.base_types.specs.Octets.{is_lower}
use Rattle.vcard_lines.specs.declared.line.Line.{Line}
use Rattle.vcard_lines.specs.LegalParts.{has_legal_parts}

-- the name has no letter in lower case
abbrev pub has_upper_name : Line → Bool
has_upper_name line = list_all (λ octet. not (is_lower octet)) line.name

-- the name is in upper case, and the parts match the grammar
abbrev pub has_proper_parts : Line → Bool
has_proper_parts line = has_upper_name line && has_legal_parts line
