use Rattle.book_http.proofs.ServedFrontLemmas.{served_fronts}
use Rattle.book_http.proofs.hub_laws.served_fronts_are_one_run.Goals as goal

pub returns : goal.returns
returns g c = served_fronts g.S.BookStore.model g.F.Front.answers
