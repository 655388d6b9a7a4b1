use Rattle.sqlite.specs.Held.{state}
use Rattle.store_tables.proofs.Lookups.{reads_then}
use Rattle.store_schema.proofs.FaultLemmas.{error_from_outside}
use Rattle.store_check.specs.FaultSearches.{IsTestResult}
use Rattle.store_check.proofs.OpenLemmas.{error_searched, opened_later, opens_listed}
use Rattle.store_check.proofs.opening.check_rows.Goals as goal

pub returns-in-Ok-clause-reads_only : goal.returns-in-Ok-clause-reads_only
returns-in-Ok-clause-reads_only g c =
    reads_then (state g.S.Store c.args.conn.now) (state g.S.Store c.list_book_rows.new.conn)
    (state g.S.Store c.check_all_rows.new.conn) c.list_book_rows.ensures.reads_only
    c.in-Ok.ensures.unchanged c.check_all_rows.ensures.reads_only

pub returns-in-Ok-clause-answers : goal.returns-in-Ok-clause-answers
returns-in-Ok-clause-answers g c =
    let listed = c.in-Ok.listed in
    opened_later (state g.S.Store c.args.conn.now) (state g.S.Store c.list_book_rows.new.conn)
    (state g.S.Store c.check_all_rows.new.conn) (λ db. IsTestResult c.args.limits db
    c.check_all_rows.result) listed.books.items listed.imports.items listed.keeps.items
    c.in-Ok.ensures.unchanged c.check_all_rows.ensures.reads_only c.in-Ok.ensures.lists
    c.check_all_rows.ensures.answers

pub returns-in-Err-clause-answers : goal.returns-in-Err-clause-answers
returns-in-Err-clause-answers g c clean says =
    error_searched (state g.S.Store c.args.conn.now).now c.open_fault_of.result
    c.open_fault_of.ensures.kind

pub returns-in-Ok-clause-opens : goal.returns-in-Ok-clause-opens
returns-in-Ok-clause-opens g c =
    let listed = c.in-Ok.listed in
    opens_listed (state g.S.Store c.args.conn.now) (state g.S.Store c.list_book_rows.new.conn)
    (state g.S.Store c.check_all_rows.new.conn) c.args.limits listed.books.items
    listed.imports.items listed.keeps.items c.check_all_rows.result
    c.in-Ok.ensures.unchanged c.list_book_rows.ensures.reads_only
    c.check_all_rows.ensures.reads_only c.in-Ok.ensures.lists c.check_all_rows.ensures.opens

pub returns-in-Err-clause-opens : goal.returns-in-Err-clause-opens
returns-in-Err-clause-opens g c clean held =
    error_from_outside (state g.S.Store c.args.conn.now) (state g.S.Store c.list_book_rows.new.conn)
    c.in-Err.error c.open_fault_of.result c.open_fault_of.ensures.kind
    c.open_fault_of.ensures.value
    (c.in-Err.ensures.fails_from_outside clean held.holds.schema)
