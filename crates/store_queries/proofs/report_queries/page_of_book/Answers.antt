use Rattle.std.proofs.Common.{rules, ◌≡◌, Err, sym, subst}
use Rattle.sqlite.specs.Held.{state}
use Rattle.book_model.specs.Books.{Book}
use Rattle.book_model.specs.Pages.{IsReport, report_step}
use Rattle.store_tables.proofs.Lookups.{reads_then}
use Rattle.store_rows.specs.TableBooks.{books_of}
use Rattle.store_lookups.specs.CallResults.{FollowsStep}
use Rattle.store_queries.specs.internal.QuerySteps.{page_step}
use Rattle.store_lookups.proofs.ReadLemmas.{none_returned, returns_then}
use Rattle.store_lookups.proofs.StoreFaultLemmas.{passed_cause, then_faults}
use Rattle.store_queries.proofs.report_queries.page_of_book.Goals as goal

pub returns-in_err-header-clause-answers : goal.returns-in_err-header-clause-answers
returns-in_err-header-clause-answers g c rows clean holds sound =
    let said : c.from_residual.result ≡ Err c.in_err-header.field-0.0 = search rules in
    subst (λ r. FollowsStep IsReport r (report_step c.args.limits (books_of rows) c.args.name.now
    c.args.token c.args.limit)) (sym said)
    (none_returned IsReport (λ (book : Book). page_step c.args.limits c.args.token c.args.limit
    book) c.args.name.now (state g.S.Store c.args.conn.now)
    (state g.S.Store c.find_header.new.conn) c.in_err-header.field-0.0
    c.in_err-header.ensures.finds rows clean holds sound)

pub returns-clause-answers : goal.returns-clause-answers
returns-clause-answers g c =
    returns_then IsReport (λ (book : Book). page_step c.args.limits c.args.token c.args.limit book)
    c.args.name.now (state g.S.Store c.args.conn.now) (state g.S.Store c.find_header.new.conn)
    (state g.S.Store c.page_in.new.conn) _ c.in_ok-header.header c.page_in.result
    c.in_ok-header.ensures.finds c.in_ok-header.ensures.unchanged
    c.page_in.ensures.reads_only.survives c.page_in.ensures.answers

pub returns-clause-reads_only : goal.returns-clause-reads_only
returns-clause-reads_only g c =
    reads_then (state g.S.Store c.args.conn.now) (state g.S.Store c.find_header.new.conn)
    (state g.S.Store c.page_in.new.conn) c.find_header.ensures.reads_only
    c.in_ok-header.ensures.unchanged c.page_in.ensures.reads_only

pub returns-in_err-header-clause-store_fault : goal.returns-in_err-header-clause-store_fault
returns-in_err-header-clause-store_fault g c rows clean holds faultless =
    passed_cause c.from_residual.result c.in_err-header.field-0.0 _ c.from_residual.ensures.1
    (c.in_err-header.ensures.store_fault rows clean holds faultless)

pub returns-clause-store_fault : goal.returns-clause-store_fault
returns-clause-store_fault g c =
    then_faults (state g.S.Store c.args.conn.now) (state g.S.Store c.find_header.new.conn)
    (state g.S.Store c.page_in.new.conn) _ _ c.args.name.now c.in_ok-header.header
    c.page_in.result c.find_header.ensures.reads_only.survives
    c.in_ok-header.ensures.unchanged c.in_ok-header.ensures.finds
    c.page_in.ensures.reads_only.survives c.page_in.ensures.store_fault
