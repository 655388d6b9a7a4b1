use Rattle.sqlite.specs.Held.{state}
use Rattle.store_schema.proofs.FaultLemmas.{error_from_outside}
use Rattle.store_check.proofs.opening.check_members.Goals as goal

pub returns-in-Err-clause-fails_from_outside : goal.returns-in-Err-clause-fails_from_outside
returns-in-Err-clause-fails_from_outside g c ms clean has there kept =
    error_from_outside (state g.S.Store c.args.conn.now) (state g.S.Store c.scan_members.new.conn)
    c.in-Err.error c.open_fault_of.result c.open_fault_of.ensures.kind
    c.open_fault_of.ensures.value
    (c.in-Err.ensures.fails_from_outside ms clean has there kept)
