use Rattle.book_laws.proofs.ReadLemmas.{getting_follows, cards_follow}
use Rattle.book_laws.proofs.refinement.cards_refine_histories.Goals as goal

pub returns-clause-one : goal.returns-clause-one
returns-clause-one c = getting_follows

pub returns-clause-all : goal.returns-clause-all
returns-clause-all c = cards_follow
