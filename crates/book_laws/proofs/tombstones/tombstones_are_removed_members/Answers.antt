use Rattle.book_laws.proofs.TombstoneLemmas.{tombstones_are_removed, tombstones_are_ordered}
use Rattle.book_laws.proofs.tombstones.tombstones_are_removed_members.Goals as goal

pub returns-clause-members : goal.returns-clause-members
returns-clause-members c = tombstones_are_removed

pub returns-clause-order : goal.returns-clause-order
returns-clause-order c = tombstones_are_ordered
