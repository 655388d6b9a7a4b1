use Rattle.std.proofs.Common.{rules, ◌≡◌, Bool, Err, sym, subst}
use Rattle.book_model.specs.declared.answers.PutAnswer.{PutAnswer}
use Rattle.store_lookups.proofs.StoreFaultLemmas.{passed_cause, then_faults}
use Rattle.sqlite.specs.Held.{state}
use Rattle.sqlite.specs.State.{HasCleanDisk}
use Rattle.store_tables.proofs.SchemaCreationLemmas.{clean_before}
use Rattle.store_tables.proofs.Lookups.{reads_then}
use Rattle.book_model.specs.Books.{book_named}
use Rattle.book_model.specs.CallOutcomes.{◌>>=◌}
use Rattle.store_rows.specs.TableBooks.{books_of}
use Rattle.store_lookups.specs.CallResults.{IsExactly}
use Rattle.store_lookups.proofs.ReadLemmas.{over_then, returns_then}
use Rattle.store_writes.specs.internal.PutPlans.{IsPutPlanned, put_answer_in}
use Rattle.store_writes.proofs.PlanLemmas.{denied_follows, first_is_ok}
use Rattle.store_writes.proofs.put_call.plan_put.Goals as goal

pub returns-in_err-answer-clause-planned : goal.returns-in_err-answer-clause-planned
returns-in_err-answer-clause-planned g c rows clean holds sound =
    let said : c.from_residual-in_err-answer.result ≡ Err c.in_err-answer.field-0.0 =
    search rules in
    let denied = returns_then {A = PutAnswer × Bool} (λ answer decided. decided.0 ≡ answer)
    (put_answer_in c.args.limits c.args.card.now c.args.expect) c.args.name.now
    (state g.S.Store c.args.conn.now) (state g.S.Store c.open_header.new.conn)
    (state g.S.Store c.decide_put.new.conn) _ c.in_ok-header.header
    (Err c.in_err-answer.field-0.0)
    c.in_ok-header.ensures.finds c.in_ok-header.ensures.unchanged
    c.decide_put.ensures.reads_only.survives c.in_err-answer.ensures.answers rows clean holds
    sound in
    subst (λ r. IsPutPlanned c.args.limits rows c.args.name.now c.args.card.now c.args.expect r)
    (sym said)
    (denied_follows {A = PutAnswer × Bool} {B = PutAnswer} (λ answer decided. decided.0 ≡ answer)
    IsExactly (book_named (books_of rows) c.args.name.now >>= put_answer_in c.args.limits
    c.args.card.now c.args.expect) c.in_err-answer.field-0.0 denied)

pub returns-in_err-answer-clause-reads_only : goal.returns-in_err-answer-clause-reads_only
returns-in_err-answer-clause-reads_only g c =
    reads_then (state g.S.Store c.args.conn.now) (state g.S.Store c.open_header.new.conn)
    (state g.S.Store c.decide_put.new.conn) c.open_header.ensures.reads_only
    c.in_ok-header.ensures.unchanged c.decide_put.ensures.reads_only

pub returns-clause-planned : goal.returns-clause-planned
returns-clause-planned g c rows clean holds sound =
    let mid = state g.S.Store c.open_header.new.conn in
    let new = state g.S.Store c.decide_put.new.conn in
    let early : HasCleanDisk mid = clean_before _ mid new c.decide_put.ensures.reads_only.survives
    clean in (
      c.in_ok-header.ensures.finds rows early holds sound,
      first_is_ok _ (c.in_ok-answer.answer, c.in_ok-answer.is_tombstone)
          (over_then (state g.S.Store c.args.conn.now) mid new _ _ c.in_ok-header.ensures.unchanged
          c.decide_put.ensures.reads_only.survives c.in_ok-answer.ensures.answers rows clean holds
          sound c.args.name.now),
      over_then (state g.S.Store c.args.conn.now) mid new _ _ c.in_ok-header.ensures.unchanged
          c.decide_put.ensures.reads_only.survives c.in_ok-answer.ensures.tombstone rows clean holds
          sound c.args.name.now,
    )

pub returns-clause-reads_only : goal.returns-clause-reads_only
returns-clause-reads_only g c =
    reads_then (state g.S.Store c.args.conn.now) (state g.S.Store c.open_header.new.conn)
    (state g.S.Store c.decide_put.new.conn) c.open_header.ensures.reads_only
    c.in_ok-header.ensures.unchanged c.decide_put.ensures.reads_only

pub returns-in_err-header-clause-store_fault : goal.returns-in_err-header-clause-store_fault
returns-in_err-header-clause-store_fault g c rows clean holds faultless =
    passed_cause c.from_residual.result c.in_err-header.field-0.0 _ c.from_residual.ensures.1
    (c.in_err-header.ensures.store_fault rows clean holds faultless)

pub returns-in_err-answer-clause-store_fault : goal.returns-in_err-answer-clause-store_fault
returns-in_err-answer-clause-store_fault g c rows clean holds faultless =
    passed_cause c.from_residual-in_err-answer.result c.in_err-answer.field-0.0 _
    c.from_residual-in_err-answer.ensures.1
    (then_faults {A = PutAnswer × Bool} (state g.S.Store c.args.conn.now)
    (state g.S.Store c.open_header.new.conn) (state g.S.Store c.decide_put.new.conn) _ _
    c.args.name.now c.in_ok-header.header (Err c.in_err-answer.field-0.0)
    c.open_header.ensures.reads_only.survives
    c.in_ok-header.ensures.unchanged c.in_ok-header.ensures.finds
    c.decide_put.ensures.reads_only.survives c.in_err-answer.ensures.store_fault rows clean
    holds faultless)
