use Rattle.std.proofs.Common.{refl}
use Rattle.store_schema.specs.FirstSchema.{ClassifiesFirstSchema}
use Rattle.store_schema.proofs.LeftoverLemmas.{leftover_fault}
use Rattle.store_check.specs.OpenResults.{max_limits}
use Rattle.store_migration.specs.Migration.{MigratesWellFormed}
use Rattle.store_migration.proofs.RefusalLemmas.{no_database_left}
use Rattle.store_migration.proofs.files.fault_after.Goals as goal

pub returns-in-SqliteFailure-NotADatabase : goal.returns-in-SqliteFailure-NotADatabase
returns-in-SqliteFailure-NotADatabase g c files is =
    leftover_fault _ files c.args.left.now c.fault_of_first_leftover.new.left refl
    (no_database_left files c.args.error _ c.args.left.now c.in-SqliteFailure-NotADatabase.is
    (rw c.in-SqliteFailure-NotADatabase.is at c.in-SqliteFailure-NotADatabase.field-0-is) is)
    ClassifiesFirstSchema (MigratesWellFormed max_limits) c.fault_of_first_leftover.result
    c.fault_of_first_leftover.ensures.fault
