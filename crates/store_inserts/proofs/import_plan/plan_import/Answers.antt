-- The decision about an import is the model's: the answer that is kept, a new plan, or a refusal.
-- Given here: the look-up of the key and the plan see the same rows (`over_then`), and together
-- they are `import_step` (`new_step`, `refused_step`). The case of a kept answer needs nothing.
-- For faults: the header that was found fits its columns, as the plan asks (`header_faultless`).
use Rattle.std.proofs.Common.{rules, ◌≡◌, None, Err, sym, subst, ◌∙◌, Result}
use Rattle.book_model.specs.declared.answers.ImportTally.{ImportTally}
use Rattle.book_model.specs.declared.denied.Denied.{Denied}
use Rattle.store_lookups.proofs.StoreFaultLemmas.{header_faultless, passed_cause}
use Rattle.store_inserts.specs.declared.import_plan.ImportPlan.{ImportPlan}
use Rattle.store_writes.proofs.ReadFaults.{then_reads}
use Rattle.sqlite.specs.Held.{state}
use Rattle.sqlite.specs.State.{HasCleanDisk}
use Rattle.store_tables.proofs.SchemaCreationLemmas.{clean_before}
use Rattle.store_tables.proofs.Lookups.{reads_then}
use Rattle.store_lookups.proofs.ReadLemmas.{over_then}
use Rattle.store_inserts.specs.internal.Importing.{IsImportPlanned}
use Rattle.store_inserts.proofs.ImportLemmas.{new_step, refused_step}
use Rattle.store_inserts.proofs.import_plan.plan_import.Goals as goal

pub returns-in_err-plan-clause-planned : goal.returns-in_err-plan-clause-planned
returns-in_err-plan-clause-planned g c rows clean holds sound =
    let old = state g.S.Store c.args.conn.now in
    let mid = state g.S.Store c.find_import_key.new.conn in
    let new = state g.S.Store c.plan_new_import.new.conn in
    let early : HasCleanDisk mid = clean_before _ mid new
    c.plan_new_import.ensures.reads_only.survives clean in
    let found = c.in_ok-header.ensures.found rows early holds sound in
    let none : c.in_ok-header.kept ≡ None = search rules in
    let said : c.from_residual-in_err-plan.result ≡ Err c.in_err-plan.field-0.0 = search rules in
    subst (λ r. IsImportPlanned c.args.limits rows c.args.name.now c.args.key.now c.args.cards.now
    r) (sym said)
    (refused_step c.args.limits rows c.args.name.now c.args.key.now c.args.cards.now
    c.in_ok-header.header c.in_ok-header.kept found c.in_err-plan.field-0.0 none
    (over_then old mid new _ _ c.in_ok-header.ensures.unchanged
    c.plan_new_import.ensures.reads_only.survives c.in_err-plan.ensures.planned rows clean holds
    sound c.args.name.now))

pub returns-in_err-plan-clause-reads_only : goal.returns-in_err-plan-clause-reads_only
returns-in_err-plan-clause-reads_only g c =
    reads_then (state g.S.Store c.args.conn.now) (state g.S.Store c.find_import_key.new.conn)
    (state g.S.Store c.plan_new_import.new.conn) c.find_import_key.ensures.reads_only
    c.in_ok-header.ensures.unchanged c.plan_new_import.ensures.reads_only

pub returns-clause-planned : goal.returns-clause-planned
returns-clause-planned g c rows clean holds sound =
    let old = state g.S.Store c.args.conn.now in
    let mid = state g.S.Store c.find_import_key.new.conn in
    let new = state g.S.Store c.plan_new_import.new.conn in
    let early : HasCleanDisk mid = clean_before _ mid new
    c.plan_new_import.ensures.reads_only.survives clean in
    let found = c.in_ok-header.ensures.found rows early holds sound in
    let none : c.in_ok-header.kept ≡ None = search rules in
    let returned = over_then old mid new _ _ c.in_ok-header.ensures.unchanged
    c.plan_new_import.ensures.reads_only.survives c.in_ok-plan.ensures.planned rows clean holds
    sound c.args.name.now in (
      found.0,
      found.2 ∙ none,
      new_step c.args.limits rows c.args.name.now c.args.key.now
          c.args.cards.now c.in_ok-header.header c.in_ok-header.kept found
          c.in_ok-plan.plan.stored.items c.in_ok-plan.tally none returned.0 returned.1,
    )

pub returns-clause-reads_only : goal.returns-clause-reads_only
returns-clause-reads_only g c =
    reads_then (state g.S.Store c.args.conn.now) (state g.S.Store c.find_import_key.new.conn)
    (state g.S.Store c.plan_new_import.new.conn) c.find_import_key.ensures.reads_only
    c.in_ok-header.ensures.unchanged c.plan_new_import.ensures.reads_only

pub returns-clause-replaced : goal.returns-clause-replaced
returns-clause-replaced g c rows clean holds sound =
    over_then (state g.S.Store c.args.conn.now) (state g.S.Store c.find_import_key.new.conn)
    (state g.S.Store c.plan_new_import.new.conn) _ _ c.in_ok-header.ensures.unchanged
    c.plan_new_import.ensures.reads_only.survives c.in_ok-plan.ensures.replaced rows clean holds
    sound c.args.name.now

-- ---- faults

pub returns-in_err-header-clause-store_fault : goal.returns-in_err-header-clause-store_fault
returns-in_err-header-clause-store_fault g c rows clean holds faultless =
    passed_cause c.from_residual.result c.in_err-header.field-0.0 _ c.from_residual.ensures.1
    (c.in_err-header.ensures.store_fault rows clean holds faultless)

pub returns-in_err-plan-clause-store_fault : goal.returns-in_err-plan-clause-store_fault
returns-in_err-plan-clause-store_fault g c rows clean holds faultless =
    let old = state g.S.Store c.args.conn.now in
    let mid = state g.S.Store c.find_import_key.new.conn in
    let new = state g.S.Store c.plan_new_import.new.conn in
    let early : HasCleanDisk mid = clean_before _ mid new
    c.plan_new_import.ensures.reads_only.survives clean in
    let fits = header_faultless rows c.args.name.now c.in_ok-header.header faultless
    (c.in_ok-header.ensures.found rows early holds faultless.sound).0 in
    let failed : Result (ImportPlan × ImportTally) Denied = Err c.in_err-plan.field-0.0 in
    passed_cause c.from_residual-in_err-plan.result c.in_err-plan.field-0.0 _
    c.from_residual-in_err-plan.ensures.1
    (then_reads old mid new _ _ failed c.find_import_key.ensures.reads_only.survives
    c.in_ok-header.ensures.unchanged c.plan_new_import.ensures.reads_only.survives
    (c.in_err-plan.ensures.store_fault fits) rows clean holds faultless)
