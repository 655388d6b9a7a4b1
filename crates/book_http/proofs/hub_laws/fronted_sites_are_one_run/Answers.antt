use Rattle.book_http.proofs.ServedFrontLemmas.{fronted_sites}
use Rattle.book_http.proofs.hub_laws.fronted_sites_are_one_run.Goals as goal

pub returns : goal.returns
returns g c = fronted_sites g.S.BookStore.model g.F.Front.answers
