use Rattle.std.proofs.Common.{[]}
use Rattle.sqlite.specs.Held.{state}
use Rattle.store_lookups.proofs.StoreFaultLemmas.{not_memory}
use Rattle.store_writes.proofs.ChangeLemmas.{prepare_reads}
use Rattle.store_writes.proofs.OpenFaults.{prepare_fails}
use Rattle.store_writes.proofs.lookups.check_open.Goals as goal

pub returns-clause-reads_only : goal.returns-clause-reads_only
returns-clause-reads_only g c =
    prepare_reads _ _ (state g.S.Store c.args.conn.now) (state g.S.Store c.prepare.new.self)
    c.prepare.result c.prepare.ensures.ok c.prepare.ensures.err c.prepare.ensures.mode
    c.prepare.ensures.survives

pub returns-in-Err-clause-store_fault : goal.returns-in-Err-clause-store_fault
returns-in-Err-clause-store_fault g c rows clean holds faultless store =
    prepare_fails (state g.S.Store c.args.conn.now) (state g.S.Store c.prepare.new.self)
    c.in-Err.error holds.schema (c.in-Err.ensures.err clean [])
    (not_memory c.in-Err.error c.fault_of.result c.fault_of.ensures.value store)

pub returns-in-Err-clause-reads_only : goal.returns-in-Err-clause-reads_only
returns-in-Err-clause-reads_only g c =
    prepare_reads _ _ (state g.S.Store c.args.conn.now) (state g.S.Store c.prepare.new.self)
    c.prepare.result c.prepare.ensures.ok c.prepare.ensures.err c.prepare.ensures.mode
    c.prepare.ensures.survives
