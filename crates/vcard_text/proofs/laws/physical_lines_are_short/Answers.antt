use Rattle.vcard_text.proofs.CanonicalLemmas.{physical_lines_are_short}
use Rattle.vcard_text.proofs.laws.physical_lines_are_short.Goals as goal

pub returns : goal.returns
returns c = physical_lines_are_short
