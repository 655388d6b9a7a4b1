use Rattle.std.proofs.Common.{◌≡◌, ◌≤◌, take}
use Rattle.sqlite.specs.Held.{state}
use Rattle.sqlite.specs.State.{IsUnchanged}
use Rattle.store_lookups.specs.CallResults.{GivenBook}
use Rattle.store_inserts.specs.internal.Importing.{CountsStoredCards, card_count, model_plan}
use Rattle.store_inserts.specs.internal.Importing.{planned_import, replaced_count}
use Rattle.store_tables.specs.StatementEffects.{OnlyReads, GivenTables}
use Rattle.store_inserts.proofs.import_plan.plan_cards.Given as goal

-- the cards so far are planned, and nothing was changed
abbrev pub invariant-loop-card : goal.invariant-loop-card
invariant-loop-card g l =
    let old = state g.S.Store l.fn.conn in
    let now = state g.S.Store l.conn in
    record {
      planned_import : GivenBook old now l.header (λ book. model_plan l.plan ≡ planned_import book
          (take l.card-index l.cards));
      replaced : GivenBook old now l.header (λ book. l.plan.replaced ≡ replaced_count book
          (take l.card-index l.cards));
      fewer : l.plan.replaced ≤ card_count l.plan;
      counted : CountsStoredCards l.plan;
      all : card_count l.plan ≡ l.card-index;
      same : GivenTables old now (IsUnchanged old now);
      left : OnlyReads old now;
    }
