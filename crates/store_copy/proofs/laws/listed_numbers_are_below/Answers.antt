use Rattle.store_copy.proofs.RestLemmas.{numbers_below}
use Rattle.store_copy.proofs.laws.listed_numbers_are_below.Goals as goal

pub returns : goal.returns
returns c = numbers_below
