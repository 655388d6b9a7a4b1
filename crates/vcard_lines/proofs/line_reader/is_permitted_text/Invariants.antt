use Rattle.std.proofs.Common.{◌≡◌, take}
use Rattle.std.specs.List.{list_all}
use Rattle.vcard_lines.specs.Grammar.{is_permitted}
use Rattle.vcard_lines.proofs.line_reader.is_permitted_text.Given as goal

-- the octets so far are tested
abbrev pub invariant-loop-octet : goal.invariant-loop-octet
invariant-loop-octet l = l.permitted ≡ list_all is_permitted (take l.octet-index l.text)
