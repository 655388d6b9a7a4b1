use Rattle.book_laws.proofs.HistoryLemmas.{version_is}
use Rattle.book_laws.proofs.logs.versions_are_last.Goals as goal

pub returns : goal.returns
returns c = version_is
