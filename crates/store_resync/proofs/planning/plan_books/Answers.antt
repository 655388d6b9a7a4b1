-- All books are planned one after the other; the resync is refused as the first book that is.
-- Given here: an induction over the books so far. The invariant says that they have plans, in the
-- order of their names, and that the model accepts them; `entries_more`, `each_more` and
-- `accepted_more` add one book. If the next one is refused, the model's first refusal is this
-- (`denied_here`). If a clause of `plan_book` promises less, `loop-line-preserved` breaks first.
use Rattle.std.proofs.Common.{rules, Vec, ◌≡◌, ◌∙◌, Some, Result, Ok, Err, List, ℕ, length, refl}
use Rattle.std.proofs.Common.{sym, ap, subst}
use Rattle.std.specs.List.{AllByRecursion, slice_get}
use Rattle.std.specs.FinMap as finite
use Rattle.std.specs.declared.alloc.Global.{Global}
use Rattle.std.proofs.lemmas.Option.{slice_get_read}
use Rattle.sqlite.specs.Effect.{Database}
use Rattle.sqlite.specs.Held.{state}
use Rattle.sqlite.specs.State.{HasCleanDisk}
use Rattle.sqlite.proofs.Callers.{unchanged_then}
use Rattle.book_model.specs.declared.answers.BookLine.{BookLine}
use Rattle.book_model.specs.declared.denied.Denied.{Denied}
use Rattle.book_model.specs.Books.{Book}
use Rattle.book_model.specs.Bounds.{Bounds}
use Rattle.book_resync.specs.Resyncing.{accept_books, last_number_of}
use Rattle.store_tables.specs.Tables.{book_schema}
use Rattle.store_tables.proofs.SchemaCreationLemmas.{clean_before}
use Rattle.store_tables.proofs.Lookups.{reads_then}
use Rattle.store_rows.specs.TableBooks.{books_of}
use Rattle.store_rows.specs.TableRows.{TableRows}
use Rattle.store_lookups.specs.CallResults.{FollowsStep}
use Rattle.store_lookups.proofs.ReadLemmas.{over_then}
use Rattle.store_lookups.proofs.StoreFaultLemmas.{passed_cause}
use Rattle.store_writes.proofs.ReadFaults.{then_reads}
use Rattle.store_resync.specs.declared.planning.BookPlan.{BookPlan}
use Rattle.store_resync.specs.internal.Plans.{ArePlans, IsBookPlan, planned_entry}
use Rattle.store_resync.proofs.PlanLemmas.{accepted_more, all_planned, denied_here, each_more}
use Rattle.store_resync.proofs.PlanLemmas.{entries_more}
use Rattle.store_resync.proofs.planning.plan_books.Goals as goal

pub loop-line-init : goal.loop-line-init
loop-line-init g c = record {
  entries = λ rows clean holds sound are. search rules;
  each = λ rows clean holds sound are. search rules;
  accepted = λ rows clean holds sound are. search rules;
  same = λ clean has. c.in_ok-check_open.ensures.unchanged clean;
  left = c.check_open.ensures.reads_only;
  opened = λ clean. let here = c.in_ok-check_open.ensures.unchanged clean in
      c.check_open.ensures.reads_only.was_open clean here.0.is_open;
}

-- what the plan of the named book is
abbrev PlansBook : Bounds → ℕ → TableRows → List ℕ → Result BookPlan Denied → Type 0
PlansBook limits pairs rows name r = (book : Book) → finite.get (books_of rows) name ≡ Some book
    → FollowsStep (λ last plan. IsBookPlan limits pairs rows plan × (plan.name ≡ name)) r
    (last_number_of limits pairs book)

pub loop-line-preserved : goal.loop-line-preserved
loop-line-preserved g c =
    let old = state g.S.Store c.args.conn.now in
    let mid = state g.S.Store c.loop-line.conn in
    let new = state g.S.Store c.plan_book.new.conn in
    let first = c.loop-line.invariant in
    let i = c.loop-line.line-index in
    let lines = c.args.lines.now in
    let line = c.line-item.result in
    let plans = c.loop-line.plans.items in
    let plan = c.in_ok-plan.plan in
    let named : c.as_str.result.now ≡ line.name = search rules in
    let at : slice_get lines i ≡ Some line =
    slice_get_read lines (length lines) i line refl c.loop-line-test.true c.line-item.is in
    record {
      entries = λ rows clean holds sound are.
          let early : HasCleanDisk mid = clean_before _ mid new
          c.plan_book.ensures.reads_only.survives clean in
          let here : PlansBook c.args.limits c.args.pairs rows line.name (Ok plan) =
          subst (λ n. PlansBook c.args.limits c.args.pairs rows n (Ok plan)) named
          (over_then old mid new _ _ first.same c.plan_book.ensures.reads_only.survives
          c.in_ok-plan.ensures.planned rows clean holds sound) in
          rw c.in_ok-push.ensures.items (entries_more c.args.limits c.args.pairs rows lines plans i
          line are at plan here (first.entries rows early holds sound are));
      each = λ rows clean holds sound are.
          let early : HasCleanDisk mid = clean_before _ mid new
          c.plan_book.ensures.reads_only.survives clean in
          let here : PlansBook c.args.limits c.args.pairs rows line.name (Ok plan) =
          subst (λ n. PlansBook c.args.limits c.args.pairs rows n (Ok plan)) named
          (over_then old mid new _ _ first.same c.plan_book.ensures.reads_only.survives
          c.in_ok-plan.ensures.planned rows clean holds sound) in
          rw c.in_ok-push.ensures.items (each_more c.args.limits c.args.pairs rows lines plans i
          line are at plan here (first.each rows early holds sound are));
      accepted = λ rows clean holds sound are.
          let early : HasCleanDisk mid = clean_before _ mid new
          c.plan_book.ensures.reads_only.survives clean in
          let here : PlansBook c.args.limits c.args.pairs rows line.name (Ok plan) =
          subst (λ n. PlansBook c.args.limits c.args.pairs rows n (Ok plan)) named
          (over_then old mid new _ _ first.same c.plan_book.ensures.reads_only.survives
          c.in_ok-plan.ensures.planned rows clean holds sound) in
          accepted_more c.args.limits c.args.pairs rows lines plans i line are at plan here
          (first.accepted rows early holds sound are);
      same = λ clean has.
          let early : HasCleanDisk mid = clean_before _ mid new
          c.plan_book.ensures.reads_only.survives clean in
          let here = first.same early has in
          unchanged_then old mid new here (c.in_ok-plan.ensures.unchanged clean
          (subst (λ (d : Database). d.schema ≡ book_schema) (sym here.0.now_is) has));
      left = reads_then old mid new first.left first.same c.plan_book.ensures.reads_only;
      opened = λ clean. first.opened (clean_before _ mid new c.plan_book.ensures.reads_only.survives
          clean);
    }

pub returns-in_err-plan-clause-planned : goal.returns-in_err-plan-clause-planned
returns-in_err-plan-clause-planned g c rows clean holds sound are =
    let old = state g.S.Store c.args.conn.now in
    let mid = state g.S.Store c.loop-line.conn in
    let new = state g.S.Store c.plan_book.new.conn in
    let first = c.loop-line.invariant in
    let lines = c.args.lines.now in
    let i = c.loop-line.line-index in
    let line = c.line-item.result in
    let at : slice_get lines i ≡ Some line =
    slice_get_read lines (length lines) i line refl c.loop-line-test.true c.line-item.is in
    let early : HasCleanDisk mid = clean_before _ mid new c.plan_book.ensures.reads_only.survives
    clean in
    let named : c.as_str.result.now ≡ line.name = search rules in
    let here : PlansBook c.args.limits c.args.pairs rows line.name (Err c.in_err-plan.field-0.0) =
    subst (λ n. PlansBook c.args.limits c.args.pairs rows n (Err c.in_err-plan.field-0.0)) named
    (over_then old mid new _ _ first.same c.plan_book.ensures.reads_only.survives
    c.in_err-plan.ensures.planned rows clean holds sound) in
    let said : c.from_residual-in_err-plan.result ≡ Err c.in_err-plan.field-0.0 = search rules in
    subst (λ r. FollowsStep (λ _ plans. ArePlans c.args.limits c.args.pairs rows plans.items) r
    (accept_books c.args.limits c.args.pairs (finite.entries (books_of rows)))) (sym said)
    (denied_here c.args.limits c.args.pairs rows lines c.loop-line.plans.items i line are at
    (λ (_ : Unit {0}) (plans : Vec BookPlan Global). ArePlans c.args.limits c.args.pairs rows
    plans.items) c.in_err-plan.field-0.0 here (first.accepted rows early holds sound are))

pub returns-clause-planned : goal.returns-clause-planned
returns-clause-planned g c rows clean holds sound are =
    let first = c.loop-line.invariant in
    let end : c.loop-line.line-index ≡ length c.args.lines.now = search rules in
    all_planned c.args.limits c.args.pairs rows c.args.lines.now c.loop-line.plans.items
    c.loop-line.line-index are end (first.entries rows clean holds sound are)
    (first.each rows clean holds sound are) (first.accepted rows clean holds sound are)

pub returns-in_err-plan-clause-reads_only : goal.returns-in_err-plan-clause-reads_only
returns-in_err-plan-clause-reads_only g c =
    reads_then (state g.S.Store c.args.conn.now) (state g.S.Store c.loop-line.conn)
    (state g.S.Store c.plan_book.new.conn) c.loop-line.invariant.left c.loop-line.invariant.same
    c.plan_book.ensures.reads_only

pub returns-in_err-push-clause-reads_only : goal.returns-in_err-push-clause-reads_only
returns-in_err-push-clause-reads_only g c =
    reads_then (state g.S.Store c.args.conn.now) (state g.S.Store c.loop-line.conn)
    (state g.S.Store c.plan_book.new.conn) c.loop-line.invariant.left c.loop-line.invariant.same
    c.plan_book.ensures.reads_only

-- ---- faults

pub returns-in_err-check_open-clause-store_fault : goal.returns-in_err-check_open-clause-store_fault
returns-in_err-check_open-clause-store_fault g c rows clean holds faultless =
    passed_cause c.from_residual.result c.in_err-check_open.field-0.0 _ c.from_residual.ensures.1
    (c.in_err-check_open.ensures.store_fault rows clean holds faultless)

pub returns-in_err-plan-clause-store_fault : goal.returns-in_err-plan-clause-store_fault
returns-in_err-plan-clause-store_fault g c rows clean holds faultless =
    let failed : Result ℕ Denied = Err c.in_err-plan.field-0.0 in
    passed_cause c.from_residual-in_err-plan.result c.in_err-plan.field-0.0 _
    c.from_residual-in_err-plan.ensures.1
    (then_reads (state g.S.Store c.args.conn.now) (state g.S.Store c.loop-line.conn)
    (state g.S.Store c.plan_book.new.conn) _ _ failed c.loop-line.invariant.left.survives
    c.loop-line.invariant.same
    c.plan_book.ensures.reads_only.survives c.in_err-plan.ensures.store_fault rows clean holds
    faultless)

pub returns-clause-was_open : goal.returns-clause-was_open
returns-clause-was_open g c clean = c.loop-line.invariant.opened clean
