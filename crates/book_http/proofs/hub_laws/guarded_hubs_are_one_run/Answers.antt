use Rattle.book_http.proofs.ServedHubLemmas.{guarded_hubs}
use Rattle.book_http.proofs.hub_laws.guarded_hubs_are_one_run.Goals as goal

pub returns : goal.returns
returns g c = guarded_hubs g.S.BookStore.model
