use Rattle.book_laws.proofs.ReadLemmas.{tallies_follow}
use Rattle.book_laws.proofs.refinement.tallies_refine_histories.Goals as goal

pub returns : goal.returns
returns c = tallies_follow
