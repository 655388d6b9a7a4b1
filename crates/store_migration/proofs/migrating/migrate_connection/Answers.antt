-- A migration plans the keeps from the rows of the first schema, and adds them in one transaction.
-- Given here: the planning changes nothing, so the transaction finds the tables that were tested
-- (`first_with`), and what it leaves is the migrated store (`is_migrated`), which is well formed by
-- the plan. A crash leaves what it could leave before, or the one commit (`survives_migration`).
-- If the plan is made for other limits than the greatest, `limits` breaks first.
use Rattle.std.proofs.Common.{rules, ◌≡◌, Err, IfErr, sym, ap, subst, ◌∙◌}
use Rattle.sqlite.specs.Effect.{Database}
use Rattle.sqlite.specs.Held.{state}
use Rattle.sqlite.specs.State.{HasCleanDisk}
use Rattle.store_check.specs.OpenResults.{max_limits}
use Rattle.store_schema.specs.OpenFaults.{ComesFromOutside}
use Rattle.store_schema.proofs.FaultLemmas.{error_from_outside}
use Rattle.store_tables.specs.Books.{HoldBooks}
use Rattle.store_tables.proofs.FailureLemmas.{outside_later}
use Rattle.store_tables.proofs.SchemaCreationLemmas.{clean_before}
use Rattle.store_migration.specs.Migration.{CanMigrate}
use Rattle.store_migration.specs.internal.MigrationPlans.{IsMigrationPlan}
use Rattle.store_migration.proofs.MigrateLemmas.{accepts, first_with, is_migrated}
use Rattle.store_migration.proofs.MigrateLemmas.{survives_migration}
use Rattle.store_migration.proofs.migrating.migrate_connection.Goals as goal

pub returns-in-Ok-clause-migrated : goal.returns-in-Ok-clause-migrated
returns-in-Ok-clause-migrated g c clean =
    let old = state g.S.Store c.args.conn.now in
    let mid = state g.S.Store c.plan_migration.new.conn in
    let new = state g.S.Store c.commit_keeps.new.conn in
    let keeps = c.in_ok-keeps.keeps.items in
    let limits = c.standard.ensures in
    let plan_migration = λ (clean : HasCleanDisk mid). subst (λ l. IsMigrationPlan l old.now keeps)
    limits (c.in_ok-keeps.ensures.planned clean) in
    let early : HasCleanDisk new → HasCleanDisk mid =
    clean_before _ mid new c.commit_keeps.ensures.survives in
    let first = first_with max_limits old mid new keeps c.in_ok-keeps.ensures.unchanged
    plan_migration (early clean) in
    let done = c.in-Ok.ensures.atomic (plan_migration (early clean)).numbered.id
    (plan_migration (early clean)).keep_rows clean first (c.as_slice.ensures.value
    ∙ (plan_migration (early clean)).returned) in
    is_migrated max_limits old mid new keeps c.in_ok-keeps.ensures.unchanged plan_migration
    (early clean) new.now done.0

pub returns-in-Ok-clause-well_formed : goal.returns-in-Ok-clause-well_formed
returns-in-Ok-clause-well_formed g c clean =
    let old = state g.S.Store c.args.conn.now in
    let mid = state g.S.Store c.plan_migration.new.conn in
    let new = state g.S.Store c.commit_keeps.new.conn in
    let keeps = c.in_ok-keeps.keeps.items in
    let limits = c.standard.ensures in
    let plan_migration = λ (clean : HasCleanDisk mid). subst (λ l. IsMigrationPlan l old.now keeps)
    limits (c.in_ok-keeps.ensures.planned clean) in
    let early : HasCleanDisk new → HasCleanDisk mid =
    clean_before _ mid new c.commit_keeps.ensures.survives in
    let first = first_with max_limits old mid new keeps c.in_ok-keeps.ensures.unchanged
    plan_migration (early clean) in
    let done = c.in-Ok.ensures.atomic (plan_migration (early clean)).numbered.id
    (plan_migration (early clean)).keep_rows clean first (c.as_slice.ensures.value
    ∙ (plan_migration (early clean)).returned) in
    (plan_migration (early clean)).makes_well_formed new.now (is_migrated max_limits old mid new
    keeps c.in_ok-keeps.ensures.unchanged plan_migration (early clean) new.now done.0)

pub returns-in-Ok-clause-committed : goal.returns-in-Ok-clause-committed
returns-in-Ok-clause-committed g c clean =
    let old = state g.S.Store c.args.conn.now in
    let mid = state g.S.Store c.plan_migration.new.conn in
    let new = state g.S.Store c.commit_keeps.new.conn in
    let keeps = c.in_ok-keeps.keeps.items in
    let limits = c.standard.ensures in
    let plan_migration = λ (clean : HasCleanDisk mid). subst (λ l. IsMigrationPlan l old.now keeps)
    limits (c.in_ok-keeps.ensures.planned clean) in
    let early : HasCleanDisk new → HasCleanDisk mid =
    clean_before _ mid new c.commit_keeps.ensures.survives in
    let first = first_with max_limits old mid new keeps c.in_ok-keeps.ensures.unchanged
    plan_migration (early clean) in
    let done = c.in-Ok.ensures.atomic (plan_migration (early clean)).numbered.id
    (plan_migration (early clean)).keep_rows clean first (c.as_slice.ensures.value
    ∙ (plan_migration (early clean)).returned) in
    done.1

pub returns-in-Ok-clause-crash : goal.returns-in-Ok-clause-crash
returns-in-Ok-clause-crash g c =
    let old = state g.S.Store c.args.conn.now in
    let mid = state g.S.Store c.plan_migration.new.conn in
    let new = state g.S.Store c.commit_keeps.new.conn in
    let keeps = c.in_ok-keeps.keeps.items in
    let limits = c.standard.ensures in
    let plan_migration = λ (clean : HasCleanDisk mid). subst (λ l. IsMigrationPlan l old.now keeps)
    limits (c.in_ok-keeps.ensures.planned clean) in
    let early : HasCleanDisk new → HasCleanDisk mid =
    clean_before _ mid new c.commit_keeps.ensures.survives in
    survives_migration max_limits old mid new keeps c.in_ok-keeps.ensures.unchanged plan_migration
    early c.plan_migration.ensures.changes_nothing.survives c.commit_keeps.ensures.survives
    (λ clean. c.commit_keeps.ensures.crash (plan_migration clean).numbered.id
    (plan_migration clean).keep_rows (first_with max_limits old mid new keeps
    c.in_ok-keeps.ensures.unchanged plan_migration clean) (c.as_slice.ensures.value
    ∙ (plan_migration clean).returned))

pub returns-clause-crash : goal.returns-clause-crash
returns-clause-crash g c =
    let old = state g.S.Store c.args.conn.now in
    let mid = state g.S.Store c.plan_migration.new.conn in
    let new = state g.S.Store c.commit_keeps.new.conn in
    let keeps = c.in_ok-keeps.keeps.items in
    let limits = c.standard.ensures in
    let plan_migration = λ (clean : HasCleanDisk mid). subst (λ l. IsMigrationPlan l old.now keeps)
    limits (c.in_ok-keeps.ensures.planned clean) in
    let early : HasCleanDisk new → HasCleanDisk mid =
    clean_before _ mid new c.commit_keeps.ensures.survives in
    survives_migration max_limits old mid new keeps c.in_ok-keeps.ensures.unchanged plan_migration
    early c.plan_migration.ensures.changes_nothing.survives c.commit_keeps.ensures.survives
    (λ clean. c.commit_keeps.ensures.crash (plan_migration clean).numbered.id
    (plan_migration clean).keep_rows (first_with max_limits old mid new keeps
    c.in_ok-keeps.ensures.unchanged plan_migration clean) (c.as_slice.ensures.value
    ∙ (plan_migration clean).returned))

-- ---- tables that can be migrated

pub returns-in_err-keeps-clause-from_outside : goal.returns-in_err-keeps-clause-from_outside
returns-in_err-keeps-clause-from_outside g c clean can =
    let old = state g.S.Store c.args.conn.now in
    let said : c.from_residual.result ≡ Err c.in_err-keeps.field-0.0 = search rules in
    subst (λ r. IfErr r (ComesFromOutside old (state g.S.Store c.plan_migration.new.conn)))
    (sym said) (c.in_err-keeps.ensures.from_outside clean
    (subst (λ l. CanMigrate l old.now) (sym c.standard.ensures) can))

pub returns-clause-from_outside : goal.returns-clause-from_outside
returns-clause-from_outside g c clean can =
    let old = state g.S.Store c.args.conn.now in
    let mid = state g.S.Store c.plan_migration.new.conn in
    let new = state g.S.Store c.commit_keeps.new.conn in
    let keeps = c.in_ok-keeps.keeps.items in
    let limits = c.standard.ensures in
    let plan_migration = λ (clean : HasCleanDisk mid). subst (λ l. IsMigrationPlan l old.now keeps)
    limits (c.in_ok-keeps.ensures.planned clean) in
    let early : HasCleanDisk mid = clean_before _ mid new c.commit_keeps.ensures.survives clean in
    let plan = plan_migration early in
    let first = first_with max_limits old mid new keeps c.in_ok-keeps.ensures.unchanged
    plan_migration early in
    let same = (c.in_ok-keeps.ensures.unchanged early).0.now_is in
    let held = can.migrates.2 in
    let books : HoldBooks (mid.now.trees 2) held.rows.books =
    subst (λ rows. HoldBooks rows held.rows.books) (can.migrates.1.books
    ∙ sym (ap (λ (d : Database). d.trees 2) same)) held.holds.books in
    error_from_outside old new c.in-Err.error c.open_fault_of.result c.open_fault_of.ensures.kind
    c.open_fault_of.ensures.value
    (λ room. outside_later old mid new _ _ c.plan_migration.ensures.changes_nothing.survives early
    c.commit_keeps.ensures.survives (c.in-Err.ensures.fails_from_outside plan.numbered.id
    plan.keep_rows held.rows.books clean first (c.as_slice.ensures.value ∙ plan.returned) books
    (accepts max_limits old.now can.migrates.0 plan.keep_rows plan.same can.migrates.1 held) room))
