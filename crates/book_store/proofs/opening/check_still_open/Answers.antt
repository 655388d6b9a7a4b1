use Rattle.std.proofs.Common.{[]}
use Rattle.sqlite.specs.Held.{state}
use Rattle.store_schema.proofs.FaultLemmas.{error_from_outside}
use Rattle.store_writes.proofs.ChangeLemmas.{prepare_reads}
use Rattle.store_writes.proofs.OpenFaults.{prepare_fails}
use Rattle.book_store.proofs.opening.check_still_open.Goals as goal

pub returns-clause-reads_only : goal.returns-clause-reads_only
returns-clause-reads_only g c =
    prepare_reads _ _ (state g.S.Store c.args.conn.now) (state g.S.Store c.prepare.new.self)
    c.prepare.result c.prepare.ensures.ok c.prepare.ensures.err c.prepare.ensures.mode
    c.prepare.ensures.survives

pub returns-in-Err-clause-from_outside : goal.returns-in-Err-clause-from_outside
returns-in-Err-clause-from_outside g c clean has =
    error_from_outside (state g.S.Store c.args.conn.now) (state g.S.Store c.prepare.new.self)
    c.in-Err.error c.open_fault_of.result c.open_fault_of.ensures.kind
    c.open_fault_of.ensures.value
    (prepare_fails (state g.S.Store c.args.conn.now) (state g.S.Store c.prepare.new.self)
    c.in-Err.error has (c.in-Err.ensures.err clean []))

pub returns-in-Err-clause-reads_only : goal.returns-in-Err-clause-reads_only
returns-in-Err-clause-reads_only g c =
    prepare_reads _ _ (state g.S.Store c.args.conn.now) (state g.S.Store c.prepare.new.self)
    c.prepare.result c.prepare.ensures.ok c.prepare.ensures.err c.prepare.ensures.mode
    c.prepare.ensures.survives
