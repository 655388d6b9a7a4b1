use Rattle.book_laws.proofs.ImportLemmas.{importing_follows}
use Rattle.book_laws.proofs.refinement.import_refines_histories.Goals as goal

pub returns : goal.returns
returns c = importing_follows
