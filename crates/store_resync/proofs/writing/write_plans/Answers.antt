-- One stage of a resync is written book by book.
-- Given here: an induction over the plans so far. The invariant says that the stage is written for
-- their books, and that the rows of the others are as before it; so the next plan still finds its
-- row (`unwritten`). `stages_next` adds one book.
-- If a clause of `write_plan` promises less, `loop-plan-preserved` breaks first.
use Rattle.std.proofs.Common.{rules, ◌≡◌, ◌∙◌, Some, length, refl, subst, arith}
use Rattle.std.specs.List.{slice_get}
use Rattle.std.proofs.lemmas.Option.{slice_get_read}
use Rattle.sqlite.specs.Held.{state}
use Rattle.sqlite.specs.State.{HasCleanDisk}
use Rattle.sqlite.proofs.InsideLemmas.{keeps_then}
use Rattle.sqlite.proofs.StateLemmas.{survives_then}
use Rattle.store_tables.proofs.SchemaCreationLemmas.{clean_before}
use Rattle.store_tables.specs.SchemaCreation.{HoldsInTx}
use Rattle.store_writes.specs.TableChanges.{HasBookRow}
use Rattle.store_resync.specs.internal.Changes.{HoldsStages}
use Rattle.store_resync.specs.internal.Stages.{header_before}
use Rattle.store_resync.proofs.StageLemmas.{stages_begin, stages_next, survives_self}
use Rattle.store_resync.proofs.writing.write_plans.Goals as goal

pub loop-plan-init : goal.loop-plan-init
loop-plan-init g c =
    let old = state g.S.Store c.args.tx.now.conn.now in
    record {
      same_reference = refl;
      holds = λ rows clean inside given. record {
        holds = stages_begin old.now rows c.args.plans.now
            c.args.stage given;
        inside = inside;
      };
      kept = λ rows clean inside given. record { was_open = λ up. up; committed = λ up. refl };
      survives = survives_self old;
    }

pub returns-in_err-write_plan-clause-keeps_commit :
    goal.returns-in_err-write_plan-clause-keeps_commit
returns-in_err-write_plan-clause-keeps_commit g c rows clean inside given =
    let old = state g.S.Store c.args.tx.now.conn.now in
    let mid = state g.S.Store c.loop-plan.tx.conn.now in
    let new = state g.S.Store c.write_plan.new.tx.conn.now in
    let first = c.loop-plan.invariant in
    let i = c.loop-plan.plan-index in
    let plan = c.plan-item.result in
    let plans = c.args.plans.now in
    let stage = c.args.stage in
    let early : HasCleanDisk mid = clean_before _ mid new c.write_plan.ensures.survives clean in
    let here = first.holds rows early inside given in
    let at : slice_get plans i ≡ Some plan =
    slice_get_read plans (length plans) i plan refl c.loop-plan-test.true c.plan-item.is in
    let line : HasBookRow mid.now here.holds.now plan.name (header_before stage plan) =
    record {
      holds = here.holds.holds;
      sound = here.holds.sound;
      there = (here.holds.unwritten i plan (omega arith) at).0;
    } in
    keeps_then old mid new (first.kept rows early inside given) (c.write_plan.ensures.keeps_commit
    (given.legal i plan at) here.holds.now plan.name clean here.inside line)

pub loop-plan-preserved : goal.loop-plan-preserved
loop-plan-preserved g c =
    let old = state g.S.Store c.args.tx.now.conn.now in
    let mid = state g.S.Store c.loop-plan.tx.conn.now in
    let new = state g.S.Store c.write_plan.new.tx.conn.now in
    let first = c.loop-plan.invariant in
    let i = c.loop-plan.plan-index in
    let plan = c.plan-item.result in
    let plans = c.args.plans.now in
    let stage = c.args.stage in
    let at : slice_get plans i ≡ Some plan =
    slice_get_read plans (length plans) i plan refl c.loop-plan-test.true c.plan-item.is in
    record {
      same_reference = c.write_plan.ensures.same_reference ∙ first.same_reference;
      holds = λ rows clean inside given.
          let early : HasCleanDisk mid = clean_before _ mid new c.write_plan.ensures.survives
          clean in
          let here = first.holds rows early inside given in
          let line : HasBookRow mid.now here.holds.now plan.name (header_before stage plan) =
          record {
            holds = here.holds.holds;
            sound = here.holds.sound;
            there = (here.holds.unwritten i plan (omega arith) at).0;
          } in
          let next = c.in_ok-write_plan.ensures.stage (given.legal i plan at) here.holds.now
          plan.name clean here.inside line in
          record {
            holds = stages_next old.now mid.now new.now rows plans stage i plan given at
                here.holds next.holds;
            inside = next.inside;
          };
      kept = λ rows clean inside given.
          let early : HasCleanDisk mid = clean_before _ mid new c.write_plan.ensures.survives
          clean in
          let here = first.holds rows early inside given in
          let line : HasBookRow mid.now here.holds.now plan.name (header_before stage plan) =
          record {
            holds = here.holds.holds;
            sound = here.holds.sound;
            there = (here.holds.unwritten i plan (omega arith) at).0;
          } in
          keeps_then old mid new (first.kept rows early inside given)
          (c.write_plan.ensures.keeps_commit (given.legal i plan at) here.holds.now plan.name
          clean here.inside line);
      survives = survives_then old mid new _ _ (λ _. ⊥) (λ _ db none. none) (λ _ db none. none)
          first.survives c.write_plan.ensures.survives;
    }

pub returns-clause-stage : goal.returns-clause-stage
returns-clause-stage g c rows clean inside given =
    let now = state g.S.Store c.loop-plan.tx.conn.now in
    let plans = c.args.plans.now in
    let end : c.loop-plan.plan-index ≡ length plans = search rules in
    subst (λ n. HoldsInTx now (λ db. HoldsStages db rows plans c.args.stage n)) end
    (c.loop-plan.invariant.holds rows clean inside given)
