use Rattle.vcard_lines.proofs.BlockLemmas.{one_reading}
use Rattle.vcard_lines.proofs.laws.logical_lines_are_unique.Goals as goal

pub returns : goal.returns
returns c = one_reading
