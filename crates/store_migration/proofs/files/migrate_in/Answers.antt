use Rattle.std.proofs.Common.{subst}
use Rattle.sqlite.specs.Files.{file_state}
use Rattle.store_schema.specs.FileFaults.{IsFileFault}
use Rattle.store_schema.specs.FirstSchema.{ClassifiesFirstSchema}
use Rattle.store_check.specs.OpenResults.{max_limits}
use Rattle.store_migration.specs.Migration.{MigratesWellFormed}
use Rattle.store_migration.proofs.FileLemmas.{migrated_from}
use Rattle.store_migration.proofs.RefusalLemmas.{files_left, migration_fault}
use Rattle.store_migration.proofs.files.migrate_in.Goals as goal

pub returns-in-Ok-migrate_connection-clause-migrates :
    goal.returns-in-Ok-migrate_connection-clause-migrates
returns-in-Ok-migrate_connection-clause-migrates g c =
    let e = c.in-Ok-migrate_connection.ensures in
    migrated_from file_state _ c.in-Ok.connection c.migrate_connection.new.conn
    c.in-Ok-migrate_connection.books c.in-Ok.ensures.opened c.in-Ok.ensures.found e.first
    e.migrated e.well_formed e.committed e.books e.crash

pub returns-in-Err-clause-refused : goal.returns-in-Err-clause-refused
returns-in-Err-clause-refused g c =
    migration_fault _ c.in-Ok.connection c.migrate_connection.new.conn c.into_store.result
    c.in-Ok.ensures.opened c.in-Ok.ensures.found _ c.migrate_connection.ensures.crash
    c.into_store.ensures.quiet c.in-Err.fault c.in-Err.ensures.refusal

pub returns-in-Err-default-Some-clause-refused : goal.returns-in-Err-default-Some-clause-refused
returns-in-Err-default-Some-clause-refused g c =
    let failed = files_left _ _ c.in-Err-default-Some.field-0-1 c.in-Err-default-Some.left
    c.in-Err-default-Some.field-0-1-is c.in-Err-default-Some.ensures.cause in
    subst (λ i. IsFileFault i c.fault_after-fault.new.left ClassifiesFirstSchema
    (MigratesWellFormed max_limits) c.fault_after-fault.result) failed.1
    (c.fault_after-fault.ensures failed.0 failed.2)
