use Rattle.std.proofs.Common.{sym, subst}
use Rattle.sqlite.specs.Held.{state}
use Rattle.store_tables.proofs.SchemaCreationLemmas.{clean_before}
use Rattle.store_migration.specs.Migration.{CanMigrate}
use Rattle.store_migration.proofs.PlanLemmas.{later_faults}
use Rattle.store_migration.proofs.planning.plan_migration.Goals as goal

pub returns-clause-from_outside : goal.returns-clause-from_outside
returns-clause-from_outside g c clean can =
    let old = state g.S.Store c.args.conn.now in
    let mid = state g.S.Store c.check_first_schema.new.conn in
    let new = state g.S.Store c.plan_keeps.new.conn in
    let early = clean_before _ mid new c.plan_keeps.ensures.reads_only.survives clean in
    let same = (c.in_ok-check_first_schema.ensures.unchanged early).0.now_is in
    later_faults old mid new _ _ c.plan_keeps.result c.check_first_schema.ensures.reads_only.survives
    early c.plan_keeps.ensures.reads_only.survives (c.plan_keeps.ensures.from_outside clean
    (subst (CanMigrate c.args.limits) (sym same) can))
