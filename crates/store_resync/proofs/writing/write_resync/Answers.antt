use Rattle.std.proofs.lemmas.Result.{on_ok_weaker}
use Rattle.sqlite.specs.Held.{state}
use Rattle.sqlite.specs.State.{HasCleanDisk}
use Rattle.sqlite.proofs.InsideLemmas.{keeps_then}
use Rattle.store_tables.proofs.SchemaCreationLemmas.{clean_before}
use Rattle.store_resync.proofs.StageLemmas.{both_stages, planned_again}
use Rattle.store_resync.proofs.writing.write_resync.Goals as goal

pub returns-clause-resynced : goal.returns-clause-resynced
returns-clause-resynced g c rows clean inside given =
    let old = state g.S.Store c.args.tx.now.conn.now in
    let mid = state g.S.Store c.write_plans.new.tx.conn.now in
    let new = state g.S.Store c.write_plans-2.new.tx.conn.now in
    let early : HasCleanDisk mid = clean_before _ mid new c.write_plans-2.ensures.survives clean in
    let one = c.in_ok-write_plans.ensures.stage rows early inside given in
    let again = planned_again old.now mid.now rows c.args.plans.now given one.holds in
    on_ok_weaker c.write_plans-2.result (λ two. record {
      holds = both_stages old.now mid.now rows
          c.args.plans.now given one.holds new.now two.holds;
      inside = two.inside;
    })
    (c.write_plans-2.ensures.stage one.holds.now clean one.inside again)

pub returns-clause-keeps_commit : goal.returns-clause-keeps_commit
returns-clause-keeps_commit g c rows clean inside given =
    let old = state g.S.Store c.args.tx.now.conn.now in
    let mid = state g.S.Store c.write_plans.new.tx.conn.now in
    let new = state g.S.Store c.write_plans-2.new.tx.conn.now in
    let early : HasCleanDisk mid = clean_before _ mid new c.write_plans-2.ensures.survives clean in
    let one = c.in_ok-write_plans.ensures.stage rows early inside given in
    let again = planned_again old.now mid.now rows c.args.plans.now given one.holds in
    keeps_then old mid new (c.write_plans.ensures.keeps_commit rows early inside given)
    (c.write_plans-2.ensures.keeps_commit one.holds.now clean one.inside again)
