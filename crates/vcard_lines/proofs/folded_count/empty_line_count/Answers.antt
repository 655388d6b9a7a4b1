use Rattle.vcard_lines.proofs.CountLemmas.{none_so_far}
use Rattle.vcard_lines.proofs.folded_count.empty_line_count.Goals as goal

pub returns : goal.returns
returns c = none_so_far
