use Rattle.vcard_lines.proofs.TextValueLemmas.{one_list}
use Rattle.vcard_lines.proofs.laws.text_characters_are_unique.Goals as goal

pub returns : goal.returns
returns c = one_list
