use Rattle.vcard_lines.proofs.LineLemmas.{line_is_read}
use Rattle.vcard_lines.proofs.laws.property_line_is_read.Goals as goal

pub returns : goal.returns
returns c = line_is_read
