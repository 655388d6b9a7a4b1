use Rattle.std.proofs.Common.{rules, string_bytes}
use Rattle.std.proofs.lemmas.Str.{IsUtf8-string_bytes}
use Rattle.vcard_import.proofs.missing_lines.missing_lines.Goals as goal

pub returns : goal.returns
returns c = (
  string_bytes c.in_ok-name.name,
  IsUtf8-string_bytes c.in_ok-name.name,
  search rules,
  search rules,
)
