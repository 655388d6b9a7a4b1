use Rattle.book_http.proofs.ServedSiteLemmas.{served_sites}
use Rattle.book_http.proofs.hub_laws.served_sites_are_one_run.Goals as goal

pub returns : goal.returns
returns g c = served_sites g.S.BookStore.model
