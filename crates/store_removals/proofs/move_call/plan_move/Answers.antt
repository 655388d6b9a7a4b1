-- The plan of a move is the model's: both headers, the card, and what the source forgets.
-- Given here: three reads in a row see the same rows (`over_then`, `same_then`). The test of the
-- two names chooses between `SameBook` (`same_among`) and a move between two books (`apart_among`).
-- `move_drops`: what the source forgets by the plan before the move is what it forgets after it.
-- If the order of the refusals changes, the answers for `planned` break first.
use Rattle.std.proofs.Common.{rules, ◌≡◌, false, Err, sym, subst, ◌∙◌, Bool, Result, List}
use Rattle.std.specs.Prelude.{⊤}
use Rattle.sqlite.proofs.StateLemmas.{survives_then}
use Rattle.vcard_lines.specs.declared.line.Line.{Line}
use Rattle.book_model.specs.declared.answers.Moved.{Moved}
use Rattle.book_model.specs.declared.denied.Denied.{Denied}
use Rattle.store_lookups.proofs.ChangeFaultLemmas.{header_fits, then_change_faults}
use Rattle.store_lookups.proofs.StoreFaultLemmas.{passed_cause}
use Rattle.store_writes.proofs.ReadFaults.{then_reads}
use Rattle.std.proofs.lemmas.Map.Text.{is_eq-slice_cmp}
use Rattle.sqlite.specs.Held.{state}
use Rattle.sqlite.specs.State.{HasCleanDisk, IsUnchanged, State}
use Rattle.store_tables.specs.StatementEffects.{GivenTables, OnlyReads}
use Rattle.book_model.specs.Books.{same_name}
use Rattle.book_model.specs.Putting.{found_in_book}
use Rattle.book_model.specs.Moving.{moving_of}
use Rattle.store_tables.proofs.SchemaCreationLemmas.{clean_before}
use Rattle.store_tables.proofs.Lookups.{reads_then}
use Rattle.store_lookups.proofs.ReadLemmas.{over_then}
use Rattle.store_rows.specs.TableBooks.{row_book, line_row}
use Rattle.store_removals.specs.declared.drop_plans.DropPlan.{DropPlan}
use Rattle.store_removals.specs.internal.Moves.{IsMovePlanned, moving_between_books}
use Rattle.store_removals.proofs.MoveLemmas.{apart_among, denied_among, move_drops, moving_back}
use Rattle.store_removals.proofs.MoveLemmas.{same_among}
use Rattle.store_removals.proofs.RemoveLemmas.{same_then}
use Rattle.store_removals.proofs.move_call.plan_move.Given as given
use Rattle.store_removals.proofs.move_call.plan_move.Goals as goal
use Rattle.store_removals.proofs.move_call.plan_move.Goals.{After-plan_drop}

-- ---- the three reads

module _ (g : given.Over) (c : After-plan_drop g) where
  abbrev old : State
  old = state g.S.Store c.args.conn.now

  abbrev a : State
  a = state g.S.Store c.find_both_headers.new.conn

  abbrev b : State
  b = state g.S.Store c.decide_move.new.conn

  abbrev new : State
  new = state g.S.Store c.plan_drop.new.conn

  later : HasCleanDisk new → HasCleanDisk b
  later clean = clean_before _ b new c.plan_drop.ensures.reads_only.survives clean

  early : HasCleanDisk new → HasCleanDisk a
  early clean = clean_before _ a b c.decide_move.ensures.reads_only.survives (later clean)

  -- the first two change nothing
  same : GivenTables old b (IsUnchanged old b)
  same = same_then old a b _ c.in_ok-source.ensures.unchanged
      c.decide_move.ensures.reads_only.survives c.in_ok-card.ensures.unchanged

  -- and so do all three
  reads_only : OnlyReads old new
  reads_only = reads_then old b new (reads_then old a b c.find_both_headers.ensures.reads_only
      c.in_ok-source.ensures.unchanged c.decide_move.ensures.reads_only) same
      c.plan_drop.ensures.reads_only

-- ---- the plan, after each read

pub returns-then-eq-clause-planned : goal.returns-then-eq-clause-planned
returns-then-eq-clause-planned g c rows clean holds sound right =
    let named = c.in_ok-source.ensures.finds rows clean holds sound in
    same_among c.args.limits rows c.args.from.now c.args.to.now c.args.uid.now c.args.expect
    c.in_ok-source.source c.in_ok-source.target named.0 named.1 (is_eq-slice_cmp c.args.from.now
    c.args.to.now ∙ sym c.eq.ensures ∙ c.if-eq.true)

pub returns-in_err-card-clause-planned : goal.returns-in_err-card-clause-planned
returns-in_err-card-clause-planned g c rows clean holds sound right =
    let old = state g.S.Store c.args.conn.now in
    let mid = state g.S.Store c.find_both_headers.new.conn in
    let new = state g.S.Store c.decide_move.new.conn in
    let early : HasCleanDisk mid = clean_before _ mid new c.decide_move.ensures.reads_only.survives
    clean in
    let named = c.in_ok-source.ensures.finds rows early holds sound in
    let apart : same_name c.args.from.now c.args.to.now ≡ false =
    is_eq-slice_cmp c.args.from.now c.args.to.now ∙ sym c.eq.ensures ∙ c.if-eq.false in
    let returned = over_then old mid new _ _ c.in_ok-source.ensures.unchanged
    c.decide_move.ensures.reads_only.survives c.in_err-card.ensures.answers rows clean holds
    sound c.args.from.now c.args.to.now in
    let said : c.from_residual-in_err-card.result ≡ Err c.in_err-card.field-0.0 = search rules in
    subst (λ r. IsMovePlanned c.args.limits rows c.args.from.now c.args.to.now c.args.uid.now
    c.args.expect r) (sym said)
    (denied_among _ _ c.in_err-card.field-0.0 (apart_among c.args.limits rows c.args.from.now
    c.args.to.now c.args.uid.now c.args.expect c.in_ok-source.source c.in_ok-source.target
    named.0 named.1 apart) returned)

pub returns-in_err-card-clause-reads_only : goal.returns-in_err-card-clause-reads_only
returns-in_err-card-clause-reads_only g c =
    reads_then (state g.S.Store c.args.conn.now) (state g.S.Store c.find_both_headers.new.conn)
    (state g.S.Store c.decide_move.new.conn) c.find_both_headers.ensures.reads_only
    c.in_ok-source.ensures.unchanged c.decide_move.ensures.reads_only

pub returns-in_err-plan-clause-reads_only : goal.returns-in_err-plan-clause-reads_only
returns-in_err-plan-clause-reads_only g c =
    reads_only g (goal.at.returns-in_err-plan-clause-reads_only g c).After-plan_drop

pub returns-clause-planned : goal.returns-clause-planned
returns-clause-planned g c rows clean holds sound right =
    let p = (goal.at.returns-clause-planned g c).After-plan_drop in
    let from = c.args.from.now in
    let to = c.args.to.now in
    let source = c.in_ok-source.source in
    let target = c.in_ok-source.target in
    let named = c.in_ok-source.ensures.finds rows (early g p clean) holds sound in
    let moving = moving_back (moving_between_books c.args.limits c.args.uid.now c.args.expect
    (row_book rows (line_row from source)) (row_book rows (line_row to target)))
    (c.in_ok-card.card, c.in_ok-card.moved, c.in_ok-card.comes_back)
    (over_then (old g p) (a g p) (b g p) _ _ c.in_ok-source.ensures.unchanged
    c.decide_move.ensures.reads_only.survives c.in_ok-card.ensures.answers rows (later g p clean)
    holds
    sound from to) in
    let drop = over_then (old g p) (b g p) (new g p) _ _ (same g p)
    c.plan_drop.ensures.reads_only.survives
    c.in_ok-plan.ensures.drop rows clean holds sound right named.0 in
    let tombstones = over_then (old g p) (b g p) (new g p) _ _ (same g p)
    c.plan_drop.ensures.reads_only.survives
    c.in_ok-plan.ensures.tombstones rows clean holds sound right named.0 in
    let low = c.in_ok-plan.ensures.horizon in
    record {
      source = named.0;
      target = named.1;
      apart = is_eq-slice_cmp c.args.from.now c.args.to.now ∙ sym c.eq.ensures ∙ c.if-eq.false;
      horizon = low;
      moving = moving;
      drop = move_drops rows from source c.args.uid.now c.args.limits
          (found_in_book (row_book rows (line_row to target)) c.args.uid.now) c.args.expect
          (moving_of c.in_ok-card.card c.in_ok-card.moved) c.in_ok-plan.plan.drop sound low moving
          drop;
      tombstones = tombstones;
      comes_back = over_then (old g p) (a g p) (b g p) _ _ c.in_ok-source.ensures.unchanged
          c.decide_move.ensures.reads_only.survives c.in_ok-card.ensures.tombstone rows (later g p
          clean) holds
          sound to;
    }

-- ---- the numbers of tombstones

pub returns-in_err-plan-clause-counts : goal.returns-in_err-plan-clause-counts
returns-in_err-plan-clause-counts g c rows clean holds sound right =
    let p = (goal.at.returns-in_err-plan-clause-counts g c).After-plan_drop in
    over_then (old g p) (b g p) (new g p) _ _ (same g p) c.plan_drop.ensures.reads_only.survives
    c.plan_drop.ensures.counts rows clean holds sound right
    (c.in_ok-source.ensures.finds rows (early g p clean) holds sound).0

pub returns-clause-counts : goal.returns-clause-counts
returns-clause-counts g c rows clean holds sound right =
    let p = (goal.at.returns-clause-counts g c).After-plan_drop in
    over_then (old g p) (b g p) (new g p) _ _ (same g p) c.plan_drop.ensures.reads_only.survives
    c.plan_drop.ensures.counts rows clean holds sound right
    (c.in_ok-source.ensures.finds rows (early g p clean) holds sound).0

-- ---- reads

pub returns-clause-reads_only : goal.returns-clause-reads_only
returns-clause-reads_only g c =
    reads_only g (goal.at.returns-clause-reads_only g c).After-plan_drop

-- ---- faults

pub returns-in_err-source-clause-store_fault : goal.returns-in_err-source-clause-store_fault
returns-in_err-source-clause-store_fault g c rows clean holds accept free =
    passed_cause c.from_residual.result c.in_err-source.field-0.0 _ c.from_residual.ensures.1
    (c.in_err-source.ensures.store_fault rows clean holds accept.faultless)

pub returns-in_err-card-clause-store_fault : goal.returns-in_err-card-clause-store_fault
returns-in_err-card-clause-store_fault g c rows clean holds accept free =
    let old = state g.S.Store c.args.conn.now in
    let mid = state g.S.Store c.find_both_headers.new.conn in
    let new = state g.S.Store c.decide_move.new.conn in
    let early : HasCleanDisk mid = clean_before _ mid new c.decide_move.ensures.reads_only.survives
    clean in
    let named = c.in_ok-source.ensures.finds rows early holds accept.faultless.sound in
    let source = header_fits rows c.args.from.now c.in_ok-source.source accept named.0.there in
    let target = header_fits rows c.args.to.now c.in_ok-source.target accept named.1.there in
    let failed : Result (List Line × Moved × Bool) Denied = Err c.in_err-card.field-0.0 in
    passed_cause c.from_residual-in_err-card.result c.in_err-card.field-0.0 _
    c.from_residual-in_err-card.ensures.1
    (then_reads old mid new _ _ failed c.find_both_headers.ensures.reads_only.survives
    c.in_ok-source.ensures.unchanged c.decide_move.ensures.reads_only.survives
    (c.in_err-card.ensures.store_fault target source) rows clean holds accept.faultless)

pub returns-in_err-plan-clause-store_fault : goal.returns-in_err-plan-clause-store_fault
returns-in_err-plan-clause-store_fault g c rows clean holds accept free =
    let p = (goal.at.returns-in_err-plan-clause-store_fault g c).After-plan_drop in
    let read = survives_then (old g p) (a g p) (b g p) _ _ (λ _. ⊤) (λ _ db none. tt)
    (λ _ db none. tt) c.find_both_headers.ensures.reads_only.survives
    c.decide_move.ensures.reads_only.survives in
    let failed : Result DropPlan Denied = Err c.in_err-plan.field-0.0 in
    passed_cause c.from_residual-in_err-plan.result c.in_err-plan.field-0.0 _
    c.from_residual-in_err-plan.ensures.1
    (then_change_faults (old g p) (b g p) (new g p) _ _ c.args.from.now
    c.in_ok-source.source failed read (same g p)
    (λ rows second held sound. (c.in_ok-source.ensures.finds rows
    (clean_before _ (a g p) (b g p) c.decide_move.ensures.reads_only.survives second) held
    sound).0.there)
    c.plan_drop.ensures.reads_only.survives c.in_err-plan.ensures.store_fault rows clean holds
    accept free)
