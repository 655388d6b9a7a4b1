use Rattle.book_laws.proofs.StoreHistoryLemmas.{reports_follow}
use Rattle.book_laws.proofs.refinement.reports_refine_histories.Goals as goal

pub returns : goal.returns
returns c = reports_follow
