use Rattle.std.proofs.Common.{length}
use Rattle.store_migration.proofs.writing.+insert_keeps.Given as goal

abbrev pub decreases-insert_keeps : goal.decreases-insert_keeps
decreases-insert_keeps g l = length l.keeps.now
