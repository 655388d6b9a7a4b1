use Rattle.std.proofs.Common.{Result, Err}
use Rattle.book_model.specs.declared.denied.Denied.{Denied}
use Rattle.store_lookups.specs.declared.member_states.MemberState.{MemberState}
use Rattle.store_lookups.proofs.StoreFaultLemmas.{passed_cause}
use Rattle.store_writes.proofs.ReadFaults.{then_reads}
use Rattle.sqlite.specs.Held.{state}
use Rattle.sqlite.specs.State.{HasCleanDisk}
use Rattle.store_tables.proofs.SchemaCreationLemmas.{clean_before}
use Rattle.store_tables.proofs.Lookups.{reads_then}
use Rattle.store_lookups.proofs.ReadLemmas.{over_then}
use Rattle.store_removals.proofs.move_call.find_both.Goals as goal

pub returns-in_err-there-clause-reads_only : goal.returns-in_err-there-clause-reads_only
returns-in_err-there-clause-reads_only g c =
    reads_then (state g.S.Store c.args.conn.now) (state g.S.Store c.find_live.new.conn)
    (state g.S.Store c.find_member_state.new.conn) c.find_live.ensures.reads_only
    c.in_ok-here.ensures.unchanged c.find_member_state.ensures.reads_only

pub returns-clause-found : goal.returns-clause-found
returns-clause-found g c rows clean holds sound from to =
    let old = state g.S.Store c.args.conn.now in
    let mid = state g.S.Store c.find_live.new.conn in
    let new = state g.S.Store c.find_member_state.new.conn in
    let early : HasCleanDisk mid = clean_before _ mid new
    c.find_member_state.ensures.reads_only.survives clean in (
      c.in_ok-here.ensures.live rows early holds sound from,
      over_then old mid new _ _ c.in_ok-here.ensures.unchanged
          c.find_member_state.ensures.reads_only.survives c.in_ok-there.ensures.state rows clean
          holds sound to,
    )

pub returns-clause-reads_only : goal.returns-clause-reads_only
returns-clause-reads_only g c =
    reads_then (state g.S.Store c.args.conn.now) (state g.S.Store c.find_live.new.conn)
    (state g.S.Store c.find_member_state.new.conn) c.find_live.ensures.reads_only
    c.in_ok-here.ensures.unchanged c.find_member_state.ensures.reads_only

pub returns-in_err-here-clause-store_fault : goal.returns-in_err-here-clause-store_fault
returns-in_err-here-clause-store_fault g c target source rows clean holds faultless =
    passed_cause c.from_residual.result c.in_err-here.field-0.0 _ c.from_residual.ensures.1
    (c.in_err-here.ensures.store_fault source rows clean holds faultless)

pub returns-in_err-there-clause-store_fault : goal.returns-in_err-there-clause-store_fault
returns-in_err-there-clause-store_fault g c target source rows clean holds faultless =
    let failed : Result MemberState Denied = Err c.in_err-there.field-0.0 in
    passed_cause c.from_residual-in_err-there.result c.in_err-there.field-0.0 _
    c.from_residual-in_err-there.ensures.1
    (then_reads (state g.S.Store c.args.conn.now) (state g.S.Store c.find_live.new.conn)
    (state g.S.Store c.find_member_state.new.conn) _ _ failed
    c.find_live.ensures.reads_only.survives c.in_ok-here.ensures.unchanged
    c.find_member_state.ensures.reads_only.survives (c.in_err-there.ensures.store_fault target) rows
    clean holds faultless)
