use Rattle.book_http.proofs.ServedHubLemmas.{service_hubs}
use Rattle.book_http.proofs.hub_laws.hubs_are_one_run.Goals as goal

pub returns : goal.returns
returns g c = service_hubs g.S.BookStore.model
