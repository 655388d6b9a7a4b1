use Rattle.vcard_lines.proofs.LineLemmas.{one_line}
use Rattle.vcard_lines.proofs.laws.property_line_is_unique.Goals as goal

pub returns : goal.returns
returns c = one_line
