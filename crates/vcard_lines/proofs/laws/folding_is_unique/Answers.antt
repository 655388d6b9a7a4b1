use Rattle.vcard_lines.proofs.FoldingLemmas.{folding_is_one}
use Rattle.vcard_lines.proofs.laws.folding_is_unique.Goals as goal

pub returns : goal.returns
returns c = folding_is_one
