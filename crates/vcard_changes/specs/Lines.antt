-- Lines that are made for others.
use Rattle.std.specs.Prelude.{ℕ, ◌≡◌, true, List, [], ◌++◌, None, codes}
use Rattle.vcard_lines.specs.declared.line.Line.{Line}
use Rattle.vcard_text.specs.Cards.{IsProperLine, line_is_named, is_uid}

-- the line without group and parameters
abbrev pub plain_line : List ℕ → List ℕ → Line
plain_line name value = record { group = None; name = name; params = []; value = value }

-- the line with X- before its name, otherwise unchanged
abbrev pub extension_line : Line → Line
extension_line line = record {
  group = line.group;
  name = codes "X-" ++ line.name;
  params = line.params;
  value = line.value;
}

-- a proper line that is a legal UID
pub record IsUidLine (line : Line) : Type 0 where
  pub proper : IsProperLine line
  pub named : line_is_named (codes "UID") line ≡ true
  pub legal : is_uid line.value ≡ true
