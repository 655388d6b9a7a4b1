-- The id that is planned for a new book is the model's, and so is a refusal.
-- Given here: whether the name is found, and the number of books, are all that the model's `new_id`
-- needs of the rows (`id_planned`, `refusal_planned`). An error of a look-up is a fault, which fits
-- any answer of the model (`fault_planned`). Reads after reads only read (`reads_then`).
-- A further look-up breaks the answers for `reads_only`.
use Rattle.std.proofs.Common.{rules, ◌≡◌, Err, sym, subst, Result, Bool, ℕ}
use Rattle.book_model.specs.declared.denied.Denied.{Denied}
use Rattle.store_lookups.proofs.ChangeFaultLemmas.{then_changes}
use Rattle.store_lookups.proofs.StoreFaultLemmas.{passed_cause}
use Rattle.store_writes.proofs.TransactionFaults.{refused_cause}
use Rattle.sqlite.specs.Held.{state}
use Rattle.book_model.specs.declared.denied.Denied.TheVariants.{Refused}
use Rattle.store_tables.proofs.Lookups.{reads_then}
use Rattle.store_lookups.proofs.ReadLemmas.{over_then}
use Rattle.store_inserts.specs.internal.Creating.{IsCreationPlanned}
use Rattle.store_inserts.proofs.CreateLemmas.{fault_planned, id_planned, refusal_planned}
use Rattle.store_inserts.proofs.creating.plan_create.Goals as goal

pub returns-in_err-check_open-clause-planned : goal.returns-in_err-check_open-clause-planned
returns-in_err-check_open-clause-planned g c rows clean holds sound =
    let said : c.from_residual.result ≡ Err c.in_err-check_open.field-0.0 = search rules in
    subst (λ r. IsCreationPlanned c.args.limits rows c.args.name.now r) (sym said)
    (fault_planned c.args.limits rows c.args.name.now c.in_err-check_open.field-0.0
    c.in_err-check_open.ensures.fault)

pub returns-in_err-has_name_already-clause-planned :
    goal.returns-in_err-has_name_already-clause-planned
returns-in_err-has_name_already-clause-planned g c rows clean holds sound =
    let said : c.from_residual-in_err-has_name_already.result
    ≡ Err c.in_err-has_name_already.field-0.0 = search rules in
    subst (λ r. IsCreationPlanned c.args.limits rows c.args.name.now r) (sym said)
    (fault_planned c.args.limits rows c.args.name.now c.in_err-has_name_already.field-0.0
    c.in_err-has_name_already.ensures.fault)

pub returns-in_err-has_name_already-clause-reads_only :
    goal.returns-in_err-has_name_already-clause-reads_only
returns-in_err-has_name_already-clause-reads_only g c =
    reads_then (state g.S.Store c.args.conn.now) (state g.S.Store c.check_open.new.conn)
    (state g.S.Store c.name_and_count.new.conn) c.check_open.ensures.reads_only
    (λ clean has. c.in_ok-check_open.ensures.unchanged clean)
    c.name_and_count.ensures.reads_only

pub returns-in_err-id-clause-planned : goal.returns-in_err-id-clause-planned
returns-in_err-id-clause-planned g c rows clean holds sound =
    let returned = over_then (state g.S.Store c.args.conn.now)
    (state g.S.Store c.check_open.new.conn) (state g.S.Store c.name_and_count.new.conn) _ _
    (λ clean has. c.in_ok-check_open.ensures.unchanged clean)
    c.name_and_count.ensures.reads_only.survives c.in_ok-has_name_already.ensures.found rows
    clean holds sound in
    let said : c.from_residual-in_err-id.result ≡ Err (Refused c.in_err-id.field-0.0) =
    search rules in
    subst (λ r. IsCreationPlanned c.args.limits rows c.args.name.now r) (sym said)
    (refusal_planned c.args.limits rows c.args.name.now
    c.in_ok-has_name_already.has_name_already c.in_ok-has_name_already.books
    c.in_err-id.field-0.0 returned.0 returned.1 c.in_err-id.ensures.id)

pub returns-in_err-id-clause-reads_only : goal.returns-in_err-id-clause-reads_only
returns-in_err-id-clause-reads_only g c =
    reads_then (state g.S.Store c.args.conn.now) (state g.S.Store c.check_open.new.conn)
    (state g.S.Store c.name_and_count.new.conn) c.check_open.ensures.reads_only
    (λ clean has. c.in_ok-check_open.ensures.unchanged clean)
    c.name_and_count.ensures.reads_only

pub returns-clause-planned : goal.returns-clause-planned
returns-clause-planned g c rows clean holds sound =
    let returned = over_then (state g.S.Store c.args.conn.now)
    (state g.S.Store c.check_open.new.conn) (state g.S.Store c.name_and_count.new.conn) _ _
    (λ clean has. c.in_ok-check_open.ensures.unchanged clean)
    c.name_and_count.ensures.reads_only.survives c.in_ok-has_name_already.ensures.found rows
    clean holds sound in
    id_planned c.args.limits rows c.args.name.now c.in_ok-has_name_already.has_name_already
    c.in_ok-has_name_already.books c.in_ok-id.id returned.0 returned.1 c.in_ok-id.ensures.id

pub returns-clause-reads_only : goal.returns-clause-reads_only
returns-clause-reads_only g c =
    reads_then (state g.S.Store c.args.conn.now) (state g.S.Store c.check_open.new.conn)
    (state g.S.Store c.name_and_count.new.conn) c.check_open.ensures.reads_only
    (λ clean has. c.in_ok-check_open.ensures.unchanged clean)
    c.name_and_count.ensures.reads_only

-- ---- faults

pub returns-in_err-check_open-clause-store_fault : goal.returns-in_err-check_open-clause-store_fault
returns-in_err-check_open-clause-store_fault g c rows clean holds accept free =
    passed_cause c.from_residual.result c.in_err-check_open.field-0.0 _ c.from_residual.ensures.1
    (c.in_err-check_open.ensures.store_fault rows clean holds accept.faultless)

pub returns-in_err-has_name_already-clause-store_fault :
    goal.returns-in_err-has_name_already-clause-store_fault
returns-in_err-has_name_already-clause-store_fault g c rows clean holds accept free =
    let failed : Result (Bool × ℕ) Denied = Err c.in_err-has_name_already.field-0.0 in
    passed_cause c.from_residual-in_err-has_name_already.result c.in_err-has_name_already.field-0.0
    _ c.from_residual-in_err-has_name_already.ensures.1
    (then_changes (state g.S.Store c.args.conn.now) (state g.S.Store c.check_open.new.conn)
    (state g.S.Store c.name_and_count.new.conn) _ _ failed
    c.check_open.ensures.reads_only.survives (λ clean has. c.in_ok-check_open.ensures.unchanged
    clean)
    c.name_and_count.ensures.reads_only.survives c.in_err-has_name_already.ensures.store_fault rows
    clean holds accept free)

pub returns-in_err-id-clause-store_fault : goal.returns-in_err-id-clause-store_fault
returns-in_err-id-clause-store_fault g c rows clean holds accept free =
    refused_cause c.from_residual-in_err-id.result c.in_err-id.field-0.0 _ (search rules)
