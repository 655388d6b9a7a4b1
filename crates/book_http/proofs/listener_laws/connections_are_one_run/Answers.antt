use Rattle.book_http.proofs.ListeningRunLemmas.{connections_are_one_run}
use Rattle.book_http.proofs.listener_laws.connections_are_one_run.Goals as goal

pub returns : goal.returns
returns g c = connections_are_one_run g.S.BookStore.model g.C.Connection.model
