use Rattle.book_resync.proofs.ResyncedLemmas.{lost_versions_never_return}
use Rattle.book_resync.proofs.ResyncedLemmas.{expired_tokens_stay_refused}
use Rattle.book_resync.proofs.laws.lost_times_never_return.Goals as goal

pub returns-clause-versions : goal.returns-clause-versions
returns-clause-versions c = lost_versions_never_return

pub returns-clause-tokens : goal.returns-clause-tokens
returns-clause-tokens c = expired_tokens_stay_refused
