use Rattle.book_laws.proofs.ReadLemmas.{kept_imports_follow}
use Rattle.book_laws.proofs.refinement.kept_imports_refine_histories.Goals as goal

pub returns : goal.returns
returns c = kept_imports_follow
