use Rattle.book_store.proofs.CrashLemmas.{stores_survive}
use Rattle.book_store.proofs.laws.stores_survive_crashes.Goals as goal

pub returns : goal.returns
returns g c = stores_survive g.S.Store g.met.S.Store.settled g.met.S.Store.stays
