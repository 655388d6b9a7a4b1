use Rattle.card_core.proofs.ExpansionLemmas.{one_expansion}
use Rattle.card_core.proofs.laws.expansion_is_unique.Goals as goal

pub returns : goal.returns
returns c = one_expansion
