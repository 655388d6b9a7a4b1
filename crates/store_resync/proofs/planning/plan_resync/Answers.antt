-- The plans of a resync are the model's, for all books in the order of their names.
-- Given here: the lines that were listed are the model's `book_lines`, as `plan_books` asks
-- (`are`), and both reads see the same rows (`over_then`). An error is that of the list, which
-- refuses nothing (`lines_denied`), or that of a plan.
use Rattle.std.proofs.Common.{rules, Vec, ◌≡◌, ℕ, Result, Ok, Err, sym, subst}
use Rattle.std.specs.FinMap as finite
use Rattle.sqlite.specs.Held.{state}
use Rattle.sqlite.specs.State.{HasCleanDisk}
use Rattle.book_resync.specs.Resyncing.{accept_books}
use Rattle.book_model.specs.declared.denied.Denied.{Denied}
use Rattle.store_tables.proofs.SchemaCreationLemmas.{clean_before}
use Rattle.store_tables.proofs.Lookups.{reads_then}
use Rattle.store_rows.specs.TableBooks.{books_of}
use Rattle.std.specs.declared.alloc.Global.{Global}
use Rattle.book_model.specs.declared.answers.BookLine.{BookLine}
use Rattle.store_resync.specs.declared.planning.BookPlan.{BookPlan}
use Rattle.store_lookups.specs.CallResults.{FollowsStep}
use Rattle.store_lookups.proofs.ReadLemmas.{over_then}
use Rattle.store_lookups.proofs.StoreFaultLemmas.{passed_cause}
use Rattle.store_writes.proofs.ReadFaults.{then_reads}
use Rattle.store_resync.specs.internal.Plans.{ArePlans}
use Rattle.store_resync.proofs.PlanLemmas.{answer_of, lines_denied}
use Rattle.store_resync.proofs.planning.plan_resync.Goals as goal

pub returns-in_err-lines-clause-planned : goal.returns-in_err-lines-clause-planned
returns-in_err-lines-clause-planned g c rows clean holds sound =
    let said : c.from_residual.result ≡ Err c.in_err-lines.field-0.0 = search rules in
    subst (λ r. FollowsStep (λ _ plans. ArePlans c.args.limits c.args.pairs rows plans.items) r
    (accept_books c.args.limits c.args.pairs (finite.entries (books_of rows)))) (sym said)
    (lines_denied (λ wanted (lines : Vec BookLine Global). lines.items ≡ wanted)
    (λ (_ : Unit {0}) (plans : Vec BookPlan Global). ArePlans c.args.limits c.args.pairs rows
    plans.items) _ c.in_err-lines.field-0.0 _ (c.in_err-lines.ensures.answers rows clean holds
    sound))

pub returns-in_err-plans-clause-planned : goal.returns-in_err-plans-clause-planned
returns-in_err-plans-clause-planned g c rows clean holds sound =
    let old = state g.S.Store c.args.conn.now in
    let mid = state g.S.Store c.lines_of_books.new.conn in
    let new = state g.S.Store c.plan_books.new.conn in
    let early : HasCleanDisk mid = clean_before _ mid new c.plan_books.ensures.reads_only.survives
    clean in
    let said : c.from_residual-in_err-plans.result ≡ Err c.in_err-plans.field-0.0 = search rules in
    let are = sym (c.in_ok-lines.ensures.answers rows early holds sound) in
    subst (λ r. FollowsStep (λ _ plans. ArePlans c.args.limits c.args.pairs rows plans.items) r
    (accept_books c.args.limits c.args.pairs (finite.entries (books_of rows)))) (sym said)
    (over_then old mid new _ _ c.in_ok-lines.ensures.unchanged
    c.plan_books.ensures.reads_only.survives c.in_err-plans.ensures.planned rows clean holds
    sound (rw c.as_slice.ensures.value are))

pub returns-clause-planned : goal.returns-clause-planned
returns-clause-planned g c rows clean holds sound =
    let old = state g.S.Store c.args.conn.now in
    let mid = state g.S.Store c.lines_of_books.new.conn in
    let new = state g.S.Store c.plan_books.new.conn in
    let early : HasCleanDisk mid = clean_before _ mid new c.plan_books.ensures.reads_only.survives
    clean in
    let are = sym (c.in_ok-lines.ensures.answers rows early holds sound) in
    over_then old mid new _ _ c.in_ok-lines.ensures.unchanged
    c.plan_books.ensures.reads_only.survives c.in_ok-plans.ensures.planned rows clean holds
    sound (rw c.as_slice.ensures.value are)

pub returns-in_err-lines-clause-store_fault : goal.returns-in_err-lines-clause-store_fault
returns-in_err-lines-clause-store_fault g c rows clean holds faultless =
    passed_cause c.from_residual.result c.in_err-lines.field-0.0 _ c.from_residual.ensures.1
    (c.in_err-lines.ensures.store_fault rows clean holds faultless)

pub returns-in_err-plans-clause-store_fault : goal.returns-in_err-plans-clause-store_fault
returns-in_err-plans-clause-store_fault g c rows clean holds faultless =
    let failed : Result ℕ Denied = Err c.in_err-plans.field-0.0 in
    passed_cause c.from_residual-in_err-plans.result c.in_err-plans.field-0.0 _
    c.from_residual-in_err-plans.ensures.1
    (then_reads (state g.S.Store c.args.conn.now) (state g.S.Store c.lines_of_books.new.conn)
    (state g.S.Store c.plan_books.new.conn) _ _ failed
    c.lines_of_books.ensures.reads_only.survives c.in_ok-lines.ensures.unchanged
    c.plan_books.ensures.reads_only.survives c.in_err-plans.ensures.store_fault rows clean holds
    faultless)

-- ---- reads

pub returns-in_err-plans-clause-reads_only : goal.returns-in_err-plans-clause-reads_only
returns-in_err-plans-clause-reads_only g c =
    reads_then (state g.S.Store c.args.conn.now) (state g.S.Store c.lines_of_books.new.conn)
    (state g.S.Store c.plan_books.new.conn) c.lines_of_books.ensures.reads_only
    c.in_ok-lines.ensures.unchanged c.plan_books.ensures.reads_only

pub returns-clause-reads_only : goal.returns-clause-reads_only
returns-clause-reads_only g c =
    reads_then (state g.S.Store c.args.conn.now) (state g.S.Store c.lines_of_books.new.conn)
    (state g.S.Store c.plan_books.new.conn) c.lines_of_books.ensures.reads_only
    c.in_ok-lines.ensures.unchanged c.plan_books.ensures.reads_only
