use Rattle.store_copy.proofs.RestLemmas.{copies_hold_rest}
use Rattle.store_copy.proofs.laws.copies_hold_the_rest.Goals as goal

pub returns : goal.returns
returns c = copies_hold_rest
