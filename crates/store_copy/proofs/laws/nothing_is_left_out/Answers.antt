use Rattle.store_copy.proofs.WithoutLemmas.{nothing_left_out}
use Rattle.store_copy.proofs.laws.nothing_is_left_out.Goals as goal

pub returns : goal.returns
returns c = nothing_left_out
