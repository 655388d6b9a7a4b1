use Rattle.book_resync.proofs.ResyncedLemmas.{resyncs_expire_tokens, initial_pages_complete_copies}
use Rattle.book_resync.proofs.laws.resyncs_restart_devices.Goals as goal

pub returns-clause-tokens : goal.returns-clause-tokens
returns-clause-tokens c = resyncs_expire_tokens

pub returns-clause-initial : goal.returns-clause-initial
returns-clause-initial c = initial_pages_complete_copies
