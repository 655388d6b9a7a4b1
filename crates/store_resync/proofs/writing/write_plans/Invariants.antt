use Rattle.std.proofs.Common.{◌≡◌}
use Rattle.sqlite.specs.Held.{state}
use Rattle.sqlite.specs.State.{Survives}
use Rattle.store_tables.specs.SchemaCreation.{HoldsInTx}
use Rattle.store_resync.specs.internal.Changes.{HoldsStages}
use Rattle.store_resync.specs.internal.OnConnections.{InTxWithPlans, KeepsCommitWithPlans}
use Rattle.store_resync.proofs.writing.write_plans.Given as goal

-- the stage is written for the plans so far
abbrev pub invariant-loop-plan : goal.invariant-loop-plan
invariant-loop-plan g l =
    let old = state g.S.Store l.fn.tx.conn.now in
    let now = state g.S.Store l.tx.conn.now in
    record {
      same_reference : l.tx.conn.ghost_name ≡ l.fn.tx.conn.ghost_name;
      holds : InTxWithPlans g.S.Store l.fn.tx.conn.now l.tx.conn.now l.plans l.stage
          (λ rows. HoldsInTx now (λ db. HoldsStages db rows l.plans l.stage l.plan-index));
      kept : KeepsCommitWithPlans g.S.Store l.fn.tx.conn.now l.tx.conn.now l.plans l.stage;
      survives : Survives old now (λ _. ⊥);
    }
