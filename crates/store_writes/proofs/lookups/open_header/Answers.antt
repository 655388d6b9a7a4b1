use Rattle.std.proofs.Common.{sym, subst}
use Rattle.store_lookups.proofs.StoreFaultLemmas.{passed_cause}
use Rattle.sqlite.specs.Effect.{Database}
use Rattle.sqlite.specs.State.{HasCleanDisk}
use Rattle.store_tables.proofs.SchemaCreationLemmas.{clean_before}
use Rattle.store_rows.specs.TableRows.{HoldsRows}
use Rattle.store_lookups.proofs.StoreFaultLemmas.{later_cause}
use Rattle.sqlite.specs.Held.{state}
use Rattle.store_tables.proofs.Lookups.{reads_then}
use Rattle.store_writes.proofs.lookups.open_header.Goals as goal

pub returns-clause-reads_only : goal.returns-clause-reads_only
returns-clause-reads_only g c =
    reads_then (state g.S.Store c.args.conn.now) (state g.S.Store c.check_open.new.conn)
    (state g.S.Store c.find_header.new.conn) c.check_open.ensures.reads_only
    (λ clean has. c.in_ok-check_open.ensures.unchanged clean) c.find_header.ensures.reads_only

pub returns-clause-store_fault : goal.returns-clause-store_fault
returns-clause-store_fault g c rows clean holds faultless =
    let old = state g.S.Store c.args.conn.now in
    let mid = state g.S.Store c.check_open.new.conn in
    let new = state g.S.Store c.find_header.new.conn in
    let early : HasCleanDisk mid = clean_before _ mid new c.find_header.ensures.reads_only.survives
    clean in
    let kept = c.in_ok-check_open.ensures.unchanged early in
    later_cause old mid new _ _ c.find_header.result c.check_open.ensures.reads_only.survives early
    c.find_header.ensures.reads_only.survives
    (c.find_header.ensures.store_fault rows clean (subst (λ (d : Database). HoldsRows d rows)
    (sym kept.0.now_is) holds) faultless)

pub returns-in_err-check_open-clause-store_fault : goal.returns-in_err-check_open-clause-store_fault
returns-in_err-check_open-clause-store_fault g c rows clean holds faultless =
    passed_cause c.from_residual.result c.in_err-check_open.field-0.0 _ c.from_residual.ensures.1
    (c.in_err-check_open.ensures.store_fault rows clean holds faultless)
