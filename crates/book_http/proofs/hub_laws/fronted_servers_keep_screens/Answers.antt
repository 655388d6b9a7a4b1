use Rattle.book_http.proofs.ServedFrontLemmas.{front_and_site_keep, front_keeps}
use Rattle.book_http.proofs.hub_laws.fronted_servers_keep_screens.Goals as goal

pub returns-clause-guarded : goal.returns-clause-guarded
returns-clause-guarded g c = front_keeps g.S.BookStore.model g.F.Front.answers

pub returns-clause-beside_site : goal.returns-clause-beside_site
returns-clause-beside_site g c = front_and_site_keep g.S.BookStore.model g.F.Front.answers
