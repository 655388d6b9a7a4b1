use Rattle.std.proofs.Common.{rules, ◌≡◌, Err, IfErr, subst, sym}
use Rattle.sqlite.specs.Held.{state}
use Rattle.store_schema.specs.OpenFaults.{ComesFromOutside}
use Rattle.store_check.specs.FaultSearches.{IsTestResult}
use Rattle.store_check.proofs.OpenLemmas.{answered_open, nothing_then, opens_tested, ours_of_held}
use Rattle.store_check.proofs.OpenLemmas.{schema_searched, tables_opened}
use Rattle.store_check.proofs.opening.check_schema_and_rows.Goals as goal

pub returns-in_err-check_schema-clause-answers : goal.returns-in_err-check_schema-clause-answers
returns-in_err-check_schema-clause-answers g c clean =
    let said : c.from_residual.result ≡ Err c.in_err-check_schema.field-0.0 = search rules in
    subst (IsTestResult c.args.limits (state g.S.Store c.args.conn.now).now) (sym said)
    (schema_searched (state g.S.Store c.args.conn.now).now c.in_err-check_schema.field-0.0
    (c.in_err-check_schema.ensures.answers clean))

pub returns-clause-answers : goal.returns-clause-answers
returns-clause-answers g c =
    tables_opened (state g.S.Store c.args.conn.now) (state g.S.Store c.check_schema.new.conn)
    (state g.S.Store c.check_rows.new.conn)
    c.in_ok-check_schema.ensures.answers c.in_ok-check_schema.ensures.unchanged
    c.check_rows.ensures.reads_only (λ db. IsTestResult c.args.limits db c.check_rows.result)
    c.check_rows.ensures.answers

pub returns-clause-was_open : goal.returns-clause-was_open
returns-clause-was_open g c =
    answered_open (state g.S.Store c.args.conn.now) (state g.S.Store c.check_schema.new.conn)
    (state g.S.Store c.check_rows.new.conn) c.check_rows.result
    c.in_ok-check_schema.ensures.unchanged c.check_rows.ensures.reads_only

pub returns-clause-changes_nothing : goal.returns-clause-changes_nothing
returns-clause-changes_nothing g c =
    nothing_then (state g.S.Store c.args.conn.now) (state g.S.Store c.check_schema.new.conn)
    (state g.S.Store c.check_rows.new.conn)
    c.in_ok-check_schema.ensures.answers c.in_ok-check_schema.ensures.unchanged
    c.check_rows.ensures.reads_only c.check_schema.ensures.reads_only

pub returns-in_err-check_schema-clause-opens : goal.returns-in_err-check_schema-clause-opens
returns-in_err-check_schema-clause-opens g c clean held =
    let old = state g.S.Store c.args.conn.now in
    let new = state g.S.Store c.check_schema.new.conn in
    let said : c.from_residual.result ≡ Err c.in_err-check_schema.field-0.0 = search rules in
    subst (λ r. IfErr r (ComesFromOutside old new)) (sym said) (c.in_err-check_schema.ensures.opens
    clean (ours_of_held c.args.limits old.now held))

pub returns-clause-opens : goal.returns-clause-opens
returns-clause-opens g c =
    opens_tested (state g.S.Store c.args.conn.now) (state g.S.Store c.check_schema.new.conn)
    (state g.S.Store c.check_rows.new.conn) c.args.limits c.check_rows.result
    c.in_ok-check_schema.ensures.unchanged c.check_schema.ensures.reads_only
    c.check_rows.ensures.reads_only c.check_rows.ensures.opens
