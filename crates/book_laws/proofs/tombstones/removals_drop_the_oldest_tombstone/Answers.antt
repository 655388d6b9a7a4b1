use Rattle.book_laws.proofs.TombstoneLemmas.{removals_drop_the_oldest_tombstone}
use Rattle.book_laws.proofs.TombstoneLemmas.{remove_calls_forget, move_calls_forget}
use Rattle.book_laws.proofs.TombstoneLemmas.{storing_forgets_nothing}
use Rattle.book_laws.proofs.tombstones.removals_drop_the_oldest_tombstone.Goals as goal

pub returns-clause-events : goal.returns-clause-events
returns-clause-events c = removals_drop_the_oldest_tombstone

pub returns-clause-remove : goal.returns-clause-remove
returns-clause-remove c = remove_calls_forget

pub returns-clause-move_card : goal.returns-clause-move_card
returns-clause-move_card c = move_calls_forget

pub returns-clause-store : goal.returns-clause-store
returns-clause-store c = storing_forgets_nothing
