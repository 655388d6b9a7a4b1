-- The plan of an import is made card by card, with one look-up for each.
-- Given here: an induction over the cards so far. The invariant says that the plan is the model's
-- of the first `i` cards, and that the look-ups changed nothing, so each card is judged by the book
-- before the import. By `fold_more` one card more is one more step of both folds: of the planned
-- cards, and of the tombstones that they replace.
use Rattle.std.proofs.Common.{rules, ◌≡◌, ◌≤◌, ◌+◌, Bool, true, false, [], take, length, sym, ap}
use Rattle.std.proofs.Common.{subst, ◌∙◌, Result, Err, Option, arith}
use Rattle.book_model.specs.declared.change.StoreReason.{StoreReason}
use Rattle.book_model.specs.declared.denied.Denied.{Denied}
use Rattle.store_lookups.proofs.StoreFaultLemmas.{passed_cause}
use Rattle.store_writes.proofs.ReadFaults.{then_reads}
use Rattle.std.proofs.lemmas.List.Sums.{fold_more}
use Rattle.std.proofs.Math.Seq.{take-length}
use Rattle.sqlite.specs.Effect.{Database}
use Rattle.sqlite.specs.Held.{state}
use Rattle.sqlite.specs.State.{HasCleanDisk}
use Rattle.sqlite.proofs.Callers.{unchanged_then}
use Rattle.vcard_text.specs.Cards.{uid_of}
use Rattle.book_model.specs.Counts.{is_tombstone_at}
use Rattle.book_model.specs.Counting.{one_if}
use Rattle.book_model.specs.Importing.{import_with_reason, import_state}
use Rattle.store_rows.specs.TableBooks.{row_book, line_row}
use Rattle.store_tables.specs.Tables.{book_schema}
use Rattle.store_tables.proofs.SchemaCreationLemmas.{clean_before}
use Rattle.store_tables.proofs.Lookups.{reads_then}
use Rattle.store_lookups.proofs.ReadLemmas.{over_then}
use Rattle.store_inserts.specs.internal.Importing.{plan_next_card, model_plan, planned_import}
use Rattle.store_inserts.specs.internal.Importing.{planning, replaced_count}
use Rattle.store_inserts.proofs.import_plan.plan_cards.Goals as goal

one_at_most : (b : Bool) → one_if b ≤ 1
one_at_most true = omega arith
one_at_most false = omega arith

pub loop-card-init : goal.loop-card-init
loop-card-init g c = record {
  planned_import = λ rows clean holds sound name. c.empty_plan-plan.ensures.plan;
  replaced = λ rows clean holds sound name. c.empty_plan-plan.ensures.none_replaced;
  fewer = let none = c.empty_plan-plan.ensures.none_replaced in omega (arith, none);
  counted = c.empty_plan-plan.ensures.counted;
  all = c.empty_plan-plan.ensures.no_cards;
  same = λ clean has. c.in_ok-check_open.ensures.unchanged clean;
  left = c.check_open.ensures.reads_only;
}

pub returns-in_err-why-clause-reads_only : goal.returns-in_err-why-clause-reads_only
returns-in_err-why-clause-reads_only g c =
    reads_then (state g.S.Store c.args.conn.now) (state g.S.Store c.loop-card.conn)
    (state g.S.Store c.decide_card.new.conn) c.loop-card.invariant.left
    c.loop-card.invariant.same c.decide_card.ensures.reads_only

pub returns-in_err-take-clause-reads_only : goal.returns-in_err-take-clause-reads_only
returns-in_err-take-clause-reads_only g c =
    reads_then (state g.S.Store c.args.conn.now) (state g.S.Store c.loop-card.conn)
    (state g.S.Store c.decide_card.new.conn) c.loop-card.invariant.left
    c.loop-card.invariant.same c.decide_card.ensures.reads_only

pub loop-card-preserved : goal.loop-card-preserved
loop-card-preserved g c =
    let old = state g.S.Store c.args.conn.now in
    let mid = state g.S.Store c.loop-card.conn in
    let new = state g.S.Store c.decide_card.new.conn in
    let first = c.loop-card.invariant in
    let i = c.loop-card.card-index in
    let cards = c.args.cards.now in
    record {
      planned_import = λ rows clean holds sound name.
          let book = row_book rows (line_row name c.args.header) in
          let early : HasCleanDisk mid = clean_before _ mid new
          c.decide_card.ensures.reads_only.survives clean in
          let so_far : model_plan c.loop-card.plan ≡ planned_import book (take i cards) =
          first.planned_import rows early holds sound name in
          let why = over_then old mid new _ _ first.same c.decide_card.ensures.reads_only.survives
          c.in_ok-why.ensures.reason rows clean holds sound name in
          c.in_ok-take.ensures.plan
          ∙ ap (import_with_reason planning (model_plan c.loop-card.plan) c.card-item.result) why
          ∙ ap (λ p. plan_next_card book p c.card-item.result) so_far
          ∙ ap (plan_next_card book (planned_import book (take i cards))) c.card-item.is
          ∙ sym (fold_more (plan_next_card book) (import_state [] 0 0 0) cards i c.card-item.result
          c.loop-card-test.true);
      replaced = λ rows clean holds sound name.
          let book = row_book rows (line_row name c.args.header) in
          let early : HasCleanDisk mid = clean_before _ mid new
          c.decide_card.ensures.reads_only.survives clean in
          let so_far : c.loop-card.plan.replaced ≡ replaced_count book (take i cards) =
          first.replaced rows early holds sound name in
          let here = over_then old mid new _ _ first.same c.decide_card.ensures.reads_only.survives
          c.in_ok-why.ensures.tombstone rows clean holds sound name in
          c.in_ok-take.ensures.replaced
          ∙ ap (λ n. n + one_if c.in_ok-why.over_tombstone) so_far
          ∙ ap (λ b. replaced_count book (take i cards) + one_if b) (sym here)
          ∙ ap (λ card. replaced_count book (take i cards) + one_if
          (is_tombstone_at book (uid_of card))) c.card-item.is
          ∙ sym (fold_more (λ n card. n + one_if (is_tombstone_at book (uid_of card))) 0 cards i
          c.card-item.result c.loop-card-test.true);
      fewer =
          let few = first.fewer in
          let one = one_at_most c.in_ok-why.over_tombstone in
          let replaced = c.in_ok-take.ensures.replaced in
          let more = c.in_ok-take.ensures.counts_one_more in
          omega (arith, few, one, replaced, more);
      counted = c.in_ok-take.ensures.counted first.counted;
      all = c.in_ok-take.ensures.counts_one_more ∙ ap (λ n. n + 1) first.all;
      same = λ clean has.
          let early : HasCleanDisk mid = clean_before _ mid new
          c.decide_card.ensures.reads_only.survives clean in
          let here = first.same early has in
          unchanged_then old mid new here (c.in_ok-why.ensures.unchanged clean
          (subst (λ (d : Database). d.schema ≡ book_schema) (sym here.0.now_is) has));
      left = reads_then old mid new first.left first.same c.decide_card.ensures.reads_only;
    }

pub returns-clause-planned : goal.returns-clause-planned
returns-clause-planned g c rows clean holds sound name =
    let cards = c.args.cards.now in
    let end : c.loop-card.card-index ≡ length cards = search rules in
    c.loop-card.invariant.planned_import rows clean holds sound name
    ∙ ap (planned_import (row_book rows (line_row name c.args.header)))
    (ap (λ i. take i cards) end ∙ take-length cards)

pub returns-clause-replaced : goal.returns-clause-replaced
returns-clause-replaced g c rows clean holds sound name =
    let cards = c.args.cards.now in
    let end : c.loop-card.card-index ≡ length cards = search rules in
    c.loop-card.invariant.replaced rows clean holds sound name
    ∙ ap (replaced_count (row_book rows (line_row name c.args.header)))
    (ap (λ i. take i cards) end ∙ take-length cards)

-- ---- faults

pub returns-in_err-check_open-clause-store_fault : goal.returns-in_err-check_open-clause-store_fault
returns-in_err-check_open-clause-store_fault g c fits rows clean holds faultless =
    passed_cause c.from_residual.result c.in_err-check_open.field-0.0 _ c.from_residual.ensures.1
    (c.in_err-check_open.ensures.store_fault rows clean holds faultless)

pub returns-in_err-why-clause-store_fault : goal.returns-in_err-why-clause-store_fault
returns-in_err-why-clause-store_fault g c fits rows clean holds faultless =
    let failed : Result (Option StoreReason × Bool) Denied = Err c.in_err-why.field-0.0 in
    passed_cause c.from_residual-in_err-why.result c.in_err-why.field-0.0 _
    c.from_residual-in_err-why.ensures.1
    (then_reads (state g.S.Store c.args.conn.now) (state g.S.Store c.loop-card.conn)
    (state g.S.Store c.decide_card.new.conn) _ _ failed c.loop-card.invariant.left.survives
    c.loop-card.invariant.same
    c.decide_card.ensures.reads_only.survives (c.in_err-why.ensures.store_fault fits) rows clean
    holds faultless)
