use Rattle.std.proofs.Common.{rules, ◌≡◌, true, Result, Err, Option}
use Rattle.book_model.specs.declared.answers.ImportTally.{ImportTally}
use Rattle.book_model.specs.declared.denied.Denied.{Denied}
use Rattle.store_lookups.proofs.StoreFaultLemmas.{passed_cause, then_faults}
use Rattle.sqlite.specs.Held.{state}
use Rattle.sqlite.specs.State.{HasCleanDisk}
use Rattle.book_model.specs.Importing.{is_legal_key}
use Rattle.store_tables.proofs.SchemaCreationLemmas.{clean_before}
use Rattle.store_tables.proofs.Lookups.{reads_then}
use Rattle.store_lookups.proofs.ReadLemmas.{over_then}
use Rattle.store_inserts.proofs.import_plan.find_import_key.Goals as goal

pub returns-in_err-kept-clause-reads_only : goal.returns-in_err-kept-clause-reads_only
returns-in_err-kept-clause-reads_only g c =
    reads_then (state g.S.Store c.args.conn.now) (state g.S.Store c.open_header.new.conn)
    (state g.S.Store c.find_import_tally.new.conn) c.open_header.ensures.reads_only
    c.in_ok-header.ensures.unchanged c.find_import_tally.ensures.reads_only

pub returns-clause-found : goal.returns-clause-found
returns-clause-found g c rows clean holds sound =
    let old = state g.S.Store c.args.conn.now in
    let mid = state g.S.Store c.open_header.new.conn in
    let new = state g.S.Store c.find_import_tally.new.conn in
    let early : HasCleanDisk mid = clean_before _ mid new
    c.find_import_tally.ensures.reads_only.survives clean in
    let legal : is_legal_key c.args.key.now ≡ true = search rules in (
      c.in_ok-header.ensures.finds rows early holds sound,
      legal,
      over_then old mid new _ _ c.in_ok-header.ensures.unchanged
          c.find_import_tally.ensures.reads_only.survives c.in_ok-kept.ensures.tally rows clean
          holds sound c.args.name.now,
    )

pub returns-clause-reads_only : goal.returns-clause-reads_only
returns-clause-reads_only g c =
    reads_then (state g.S.Store c.args.conn.now) (state g.S.Store c.open_header.new.conn)
    (state g.S.Store c.find_import_tally.new.conn) c.open_header.ensures.reads_only
    c.in_ok-header.ensures.unchanged c.find_import_tally.ensures.reads_only

-- ---- faults

pub returns-in_err-header-clause-store_fault : goal.returns-in_err-header-clause-store_fault
returns-in_err-header-clause-store_fault g c rows clean holds faultless =
    passed_cause c.from_residual.result c.in_err-header.field-0.0 _ c.from_residual.ensures.1
    (c.in_err-header.ensures.store_fault rows clean holds faultless)

pub returns-in_err-kept-clause-store_fault : goal.returns-in_err-kept-clause-store_fault
returns-in_err-kept-clause-store_fault g c rows clean holds faultless =
    let failed : Result (Option ImportTally) Denied = Err c.in_err-kept.field-0.0 in
    passed_cause c.from_residual-in_err-kept.result c.in_err-kept.field-0.0 _
    c.from_residual-in_err-kept.ensures.1
    (then_faults (state g.S.Store c.args.conn.now) (state g.S.Store c.open_header.new.conn)
    (state g.S.Store c.find_import_tally.new.conn) _ _ c.args.name.now c.in_ok-header.header
    failed c.open_header.ensures.reads_only.survives
    c.in_ok-header.ensures.unchanged c.in_ok-header.ensures.finds
    c.find_import_tally.ensures.reads_only.survives c.in_err-kept.ensures.store_fault rows clean
    holds faultless)
