use Rattle.std.proofs.Common.{ap, ◌∙◌}
use Rattle.sqlite.specs.Effect.{Database}
use Rattle.sqlite.specs.Held.{state}
use Rattle.store_check.proofs.ListedLemmas.{well_stored_held}
use Rattle.store_check.proofs.OpenLemmas.{only_memory}
use Rattle.store_schema.proofs.FaultLemmas.{error_from_outside}
use Rattle.store_tables.proofs.SchemaCreationLemmas.{clean_before}
use Rattle.store_migration.specs.internal.FirstRows.{AreListedFirstRows}
use Rattle.store_migration.proofs.FirstLemmas.{over_then, reads_then}
use Rattle.store_migration.proofs.PlanLemmas.{keeps_outside, keeps_planned, keeps_refused}
use Rattle.store_migration.proofs.PlanLemmas.{later_fault}
use Rattle.store_migration.proofs.planning.plan_keeps.Goals as goal

pub returns-in-Ok-clause-planned : goal.returns-in-Ok-clause-planned
returns-in-Ok-clause-planned g c clean first =
    let old = state g.S.Store c.args.conn.now in
    let mid = state g.S.Store c.check_meta_id.new.conn in
    let new = state g.S.Store c.list_first_rows.new.conn in
    let rows = c.in-Ok.rows in
    let early = clean_before _ mid new c.list_first_rows.ensures.reads_only.survives clean in
    let listed = over_then old mid new (λ (db : Database). AreListedFirstRows db rows.books.items
    rows.members.items rows.imports.items) c.in_ok-check_meta_id.ensures.unchanged
    c.list_first_rows.ensures.reads_only c.in-Ok.ensures.lists clean first.schema in
    keeps_planned old.now rows.books.items rows.members.items rows.imports.items listed
    c.args.limits well_stored_held first (c.in_ok-check_meta_id.ensures.has_id early
    first.schema first) c.compute_keeps.result c.compute_keeps.ensures

pub returns-in-Ok-clause-refusal : goal.returns-in-Ok-clause-refusal
returns-in-Ok-clause-refusal g c clean first =
    let old = state g.S.Store c.args.conn.now in
    let mid = state g.S.Store c.check_meta_id.new.conn in
    let new = state g.S.Store c.list_first_rows.new.conn in
    let rows = c.in-Ok.rows in
    let listed = over_then old mid new (λ (db : Database). AreListedFirstRows db rows.books.items
    rows.members.items rows.imports.items) c.in_ok-check_meta_id.ensures.unchanged
    c.list_first_rows.ensures.reads_only c.in-Ok.ensures.lists clean first.schema in
    keeps_refused old.now rows.books.items rows.members.items rows.imports.items listed
    c.args.limits well_stored_held first c.compute_keeps.result c.compute_keeps.ensures

pub returns-in-Ok-clause-reads_only : goal.returns-in-Ok-clause-reads_only
returns-in-Ok-clause-reads_only g c =
    reads_then (state g.S.Store c.args.conn.now) (state g.S.Store c.check_meta_id.new.conn)
    (state g.S.Store c.list_first_rows.new.conn) c.in_ok-check_meta_id.ensures.unchanged
    c.check_meta_id.ensures.reads_only c.list_first_rows.ensures.reads_only

pub returns-in-Err-clause-reads_only : goal.returns-in-Err-clause-reads_only
returns-in-Err-clause-reads_only g c =
    reads_then (state g.S.Store c.args.conn.now) (state g.S.Store c.check_meta_id.new.conn)
    (state g.S.Store c.list_first_rows.new.conn) c.in_ok-check_meta_id.ensures.unchanged
    c.check_meta_id.ensures.reads_only c.list_first_rows.ensures.reads_only

-- ---- tables that can be migrated

pub returns-in-Ok-clause-from_outside : goal.returns-in-Ok-clause-from_outside
returns-in-Ok-clause-from_outside g c clean can =
    let old = state g.S.Store c.args.conn.now in
    let mid = state g.S.Store c.check_meta_id.new.conn in
    let new = state g.S.Store c.list_first_rows.new.conn in
    let rows = c.in-Ok.rows in
    let listed = over_then old mid new (λ (db : Database). AreListedFirstRows db rows.books.items
    rows.members.items rows.imports.items) c.in_ok-check_meta_id.ensures.unchanged
    c.list_first_rows.ensures.reads_only c.in-Ok.ensures.lists clean can.first.schema in
    only_memory old new c.compute_keeps.result (keeps_outside old.now rows.books.items
    rows.members.items rows.imports.items listed c.args.limits well_stored_held can.first
    can.migrates c.compute_keeps.result c.compute_keeps.ensures)

pub returns-in-Err-clause-from_outside : goal.returns-in-Err-clause-from_outside
returns-in-Err-clause-from_outside g c clean can =
    let old = state g.S.Store c.args.conn.now in
    let mid = state g.S.Store c.check_meta_id.new.conn in
    let new = state g.S.Store c.list_first_rows.new.conn in
    let early = clean_before _ mid new c.list_first_rows.ensures.reads_only.survives clean in
    let same = c.in_ok-check_meta_id.ensures.unchanged early can.first.schema in
    let still = ap (λ (d : Database). d.schema) same.0.now_is ∙ can.first.schema in
    later_fault old mid new _ _ c.open_fault_of.result c.check_meta_id.ensures.reads_only.survives
    early c.list_first_rows.ensures.reads_only.survives
    (error_from_outside mid new c.in-Err.error c.open_fault_of.result c.open_fault_of.ensures.kind
    c.open_fault_of.ensures.value (c.in-Err.ensures.fails_from_outside clean still))
