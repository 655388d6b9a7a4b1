use Rattle.book_laws.proofs.ForgetLemmas.{forgetting_follows}
use Rattle.book_laws.proofs.refinement.forget_refines_histories.Goals as goal

pub returns : goal.returns
returns c = forgetting_follows
