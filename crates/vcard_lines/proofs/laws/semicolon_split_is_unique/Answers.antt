use Rattle.vcard_lines.proofs.TextValueLemmas.{one_cut}
use Rattle.vcard_lines.proofs.laws.semicolon_split_is_unique.Goals as goal

pub returns : goal.returns
returns c = one_cut
