use Rattle.vcard_lines.proofs.TextValueLemmas.{joined_back}
use Rattle.vcard_lines.proofs.laws.joined_texts_are_components.Goals as goal

pub returns : goal.returns
returns c = joined_back
