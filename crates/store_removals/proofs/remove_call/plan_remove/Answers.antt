-- The plan of a removal is the model's: the header, the number, and what the book forgets.
-- Given here: three reads in a row see the same rows (`over_then`, `same_then`), so what each says
-- holds of the rows before the first. `plan_drop` speaks of the book before the removal, the model
-- of the book after it; `drop_is` says that both forget up to the same number.
-- A further read breaks the answers for `unchanged` and `reads_only`.
use Rattle.std.proofs.Common.{rules, ◌≡◌, ℕ, Err, sym, subst, Result}
use Rattle.std.specs.Prelude.{⊤}
use Rattle.sqlite.proofs.StateLemmas.{survives_then}
use Rattle.book_model.specs.declared.denied.Denied.{Denied}
use Rattle.store_lookups.proofs.ChangeFaultLemmas.{then_change_faults}
use Rattle.store_lookups.proofs.StoreFaultLemmas.{passed_cause, then_faults}
use Rattle.sqlite.specs.Held.{state}
use Rattle.sqlite.specs.State.{HasCleanDisk, IsUnchanged, State}
use Rattle.store_tables.specs.StatementEffects.{GivenTables, OnlyReads}
use Rattle.store_tables.proofs.SchemaCreationLemmas.{clean_before}
use Rattle.store_tables.proofs.Lookups.{reads_then}
use Rattle.store_lookups.specs.CallResults.{IsExactly}
use Rattle.store_lookups.proofs.ReadLemmas.{none_returned, over_then, returns_then}
use Rattle.store_rows.specs.TableBooks.{row_book, line_row}
use Rattle.store_removals.specs.declared.drop_plans.DropPlan.{DropPlan}
use Rattle.store_removals.specs.internal.Removals.{IsRemovalPlanned, removal_number_in}
use Rattle.store_writes.proofs.PlanLemmas.{answer_is_exact}
use Rattle.store_removals.proofs.RemoveLemmas.{drop_is, fault_removes, same_then}
use Rattle.store_removals.proofs.remove_call.plan_remove.Given as given
use Rattle.store_removals.proofs.remove_call.plan_remove.Goals as goal
use Rattle.store_removals.proofs.remove_call.plan_remove.Goals.{After-plan_drop}

-- ---- the three reads

module _ (g : given.Over) (c : After-plan_drop g) where
  abbrev old : State
  old = state g.S.Store c.args.conn.now

  abbrev a : State
  a = state g.S.Store c.open_header.new.conn

  abbrev b : State
  b = state g.S.Store c.decide_removal.new.conn

  abbrev new : State
  new = state g.S.Store c.plan_drop.new.conn

  later : HasCleanDisk new → HasCleanDisk b
  later clean = clean_before _ b new c.plan_drop.ensures.reads_only.survives clean

  early : HasCleanDisk new → HasCleanDisk a
  early clean = clean_before _ a b c.decide_removal.ensures.reads_only.survives (later clean)

  -- the first two change nothing
  same : GivenTables old b (IsUnchanged old b)
  same = same_then old a b _ c.in_ok-header.ensures.unchanged
      c.decide_removal.ensures.reads_only.survives c.in_ok-number.ensures.unchanged

  -- and so do all three
  reads_only : OnlyReads old new
  reads_only = reads_then old b new (reads_then old a b c.open_header.ensures.reads_only
      c.in_ok-header.ensures.unchanged c.decide_removal.ensures.reads_only) same
      c.plan_drop.ensures.reads_only

-- ---- the plan, after each read

pub returns-in_err-header-clause-planned : goal.returns-in_err-header-clause-planned
returns-in_err-header-clause-planned g c rows clean holds sound right =
    let said : c.from_residual.result ≡ Err c.in_err-header.field-0.0 = search rules in
    subst (λ r. IsRemovalPlanned c.args.limits rows c.args.name.now c.args.uid.now c.args.expect r)
    (sym said)
    (none_returned IsExactly (removal_number_in c.args.limits c.args.uid.now c.args.expect)
    c.args.name.now (state g.S.Store c.args.conn.now) (state g.S.Store c.open_header.new.conn)
    c.in_err-header.field-0.0 c.in_err-header.ensures.finds rows clean holds sound)

pub returns-in_err-number-clause-planned : goal.returns-in_err-number-clause-planned
returns-in_err-number-clause-planned g c rows clean holds sound right =
    let said : c.from_residual-in_err-number.result ≡ Err c.in_err-number.field-0.0 =
    search rules in
    subst (λ r. IsRemovalPlanned c.args.limits rows c.args.name.now c.args.uid.now c.args.expect r)
    (sym said)
    (returns_then IsExactly (removal_number_in c.args.limits c.args.uid.now c.args.expect)
    c.args.name.now (state g.S.Store c.args.conn.now) (state g.S.Store c.open_header.new.conn)
    (state g.S.Store c.decide_removal.new.conn) _ c.in_ok-header.header
    (Err c.in_err-number.field-0.0)
    c.in_ok-header.ensures.finds c.in_ok-header.ensures.unchanged
    c.decide_removal.ensures.reads_only.survives c.in_err-number.ensures.answers rows clean
    holds sound)

pub returns-in_err-number-clause-reads_only : goal.returns-in_err-number-clause-reads_only
returns-in_err-number-clause-reads_only g c =
    reads_then (state g.S.Store c.args.conn.now) (state g.S.Store c.open_header.new.conn)
    (state g.S.Store c.decide_removal.new.conn) c.open_header.ensures.reads_only
    c.in_ok-header.ensures.unchanged c.decide_removal.ensures.reads_only

pub returns-in_err-plan-clause-planned : goal.returns-in_err-plan-clause-planned
returns-in_err-plan-clause-planned g c rows clean holds sound right =
    let said : c.from_residual-in_err-plan.result ≡ Err c.in_err-plan.field-0.0 = search rules in
    subst (λ r. IsRemovalPlanned c.args.limits rows c.args.name.now c.args.uid.now c.args.expect r)
    (sym said)
    (fault_removes c.args.limits rows c.args.name.now c.args.uid.now c.args.expect
    c.in_err-plan.field-0.0 c.in_err-plan.ensures.fault)

pub returns-in_err-plan-clause-reads_only : goal.returns-in_err-plan-clause-reads_only
returns-in_err-plan-clause-reads_only g c =
    reads_only g (goal.at.returns-in_err-plan-clause-reads_only g c).After-plan_drop

pub returns-clause-planned : goal.returns-clause-planned
returns-clause-planned g c rows clean holds sound right =
    let p = (goal.at.returns-clause-planned g c).After-plan_drop in
    let name = c.args.name.now in
    let header = c.in_ok-header.header in
    let number = answer_is_exact (removal_number_in c.args.limits c.args.uid.now c.args.expect
    (row_book rows (line_row name header))) c.in_ok-number.number
    (over_then (old g p) (a g p) (b g p) _ _ c.in_ok-header.ensures.unchanged
    c.decide_removal.ensures.reads_only.survives c.in_ok-number.ensures.answers rows (later g p
    clean) holds
    sound name) in
    let named = c.in_ok-header.ensures.finds rows (early g p clean) holds sound in
    let drop = over_then (old g p) (b g p) (new g p) _ _ (same g p)
    c.plan_drop.ensures.reads_only.survives
    c.in_ok-plan.ensures.drop rows clean holds sound right named in
    let tombstones = over_then (old g p) (b g p) (new g p) _ _ (same g p)
    c.plan_drop.ensures.reads_only.survives
    c.in_ok-plan.ensures.tombstones rows clean holds sound right named in
    let low = c.in_ok-plan.ensures.horizon in
    record {
      named = named;
      horizon = low;
      number = number;
      drop = drop_is rows name header c.args.uid.now c.args.limits c.args.expect
          c.in_ok-number.number c.in_ok-plan.plan.drop sound low number drop;
      tombstones = tombstones;
    }

-- ---- the numbers of tombstones

pub returns-in_err-plan-clause-counts : goal.returns-in_err-plan-clause-counts
returns-in_err-plan-clause-counts g c rows clean holds sound right =
    let p = (goal.at.returns-in_err-plan-clause-counts g c).After-plan_drop in
    over_then (old g p) (b g p) (new g p) _ _ (same g p) c.plan_drop.ensures.reads_only.survives
    c.plan_drop.ensures.counts rows clean holds sound right
    (c.in_ok-header.ensures.finds rows (early g p clean) holds sound)

pub returns-clause-counts : goal.returns-clause-counts
returns-clause-counts g c rows clean holds sound right =
    let p = (goal.at.returns-clause-counts g c).After-plan_drop in
    over_then (old g p) (b g p) (new g p) _ _ (same g p) c.plan_drop.ensures.reads_only.survives
    c.plan_drop.ensures.counts rows clean holds sound right
    (c.in_ok-header.ensures.finds rows (early g p clean) holds sound)

-- ---- reads

pub returns-clause-unchanged : goal.returns-clause-unchanged
returns-clause-unchanged g c =
    let p = (goal.at.returns-clause-unchanged g c).After-plan_drop in
    same_then (old g p) (b g p) (new g p) _ (same g p) c.plan_drop.ensures.reads_only.survives
    c.in_ok-plan.ensures.unchanged

pub returns-clause-reads_only : goal.returns-clause-reads_only
returns-clause-reads_only g c =
    reads_only g (goal.at.returns-clause-reads_only g c).After-plan_drop

pub returns-clause-was_open : goal.returns-clause-was_open
returns-clause-was_open g c clean =
    c.in_ok-header.ensures.was_open (early g (goal.at.returns-clause-was_open g c).After-plan_drop
    clean)

-- ---- faults

pub returns-in_err-header-clause-store_fault : goal.returns-in_err-header-clause-store_fault
returns-in_err-header-clause-store_fault g c rows clean holds accept free =
    passed_cause c.from_residual.result c.in_err-header.field-0.0 _ c.from_residual.ensures.1
    (c.in_err-header.ensures.store_fault rows clean holds accept.faultless)

pub returns-in_err-number-clause-store_fault : goal.returns-in_err-number-clause-store_fault
returns-in_err-number-clause-store_fault g c rows clean holds accept free =
    let old = state g.S.Store c.args.conn.now in
    let mid = state g.S.Store c.open_header.new.conn in
    let new = state g.S.Store c.decide_removal.new.conn in
    let failed : Result ℕ Denied = Err c.in_err-number.field-0.0 in
    passed_cause c.from_residual-in_err-number.result c.in_err-number.field-0.0 _
    c.from_residual-in_err-number.ensures.1
    (then_faults old mid new _ _ c.args.name.now c.in_ok-header.header failed
    c.open_header.ensures.reads_only.survives c.in_ok-header.ensures.unchanged
    c.in_ok-header.ensures.finds
    c.decide_removal.ensures.reads_only.survives c.in_err-number.ensures.store_fault rows clean
    holds accept.faultless)

pub returns-in_err-plan-clause-store_fault : goal.returns-in_err-plan-clause-store_fault
returns-in_err-plan-clause-store_fault g c rows clean holds accept free =
    let p = (goal.at.returns-in_err-plan-clause-store_fault g c).After-plan_drop in
    let read = survives_then (old g p) (a g p) (b g p) _ _ (λ _. ⊤) (λ _ db none. tt)
    (λ _ db none. tt) c.open_header.ensures.reads_only.survives
    c.decide_removal.ensures.reads_only.survives in
    let failed : Result DropPlan Denied = Err c.in_err-plan.field-0.0 in
    passed_cause c.from_residual-in_err-plan.result c.in_err-plan.field-0.0 _
    c.from_residual-in_err-plan.ensures.1
    (then_change_faults (old g p) (b g p) (new g p) _ _ c.args.name.now
    c.in_ok-header.header failed read (same g p)
    (λ rows second held sound. (c.in_ok-header.ensures.finds rows
    (clean_before _ (a g p) (b g p) c.decide_removal.ensures.reads_only.survives second) held
    sound).there)
    c.plan_drop.ensures.reads_only.survives c.in_err-plan.ensures.store_fault rows clean holds
    accept free)
