use Rattle.std.proofs.Common.{rules, ◌≡◌, Ok, Err, sym, subst}
use Rattle.sqlite.specs.Held.{state}
use Rattle.book_model.specs.Books.{Book}
use Rattle.book_model.specs.BookQueries.{book_tally, tally_step}
use Rattle.store_tables.proofs.Lookups.{reads_then}
use Rattle.store_tables.proofs.SchemaCreationLemmas.{clean_before}
use Rattle.book_model.specs.Counts.{AreCountsOf}
use Rattle.store_rows.specs.LookupLaws.{IsBookNamed}
use Rattle.store_rows.specs.TableBooks.{books_of, line_row, row_book}
use Rattle.store_lookups.specs.CallResults.{FollowsStep, IsExactly}
use Rattle.store_lookups.proofs.ReadLemmas.{in_book, none_returned, over_then}
use Rattle.store_lookups.proofs.StoreFaultLemmas.{passed_cause, then_faults}
use Rattle.store_queries.proofs.book_queries.tally_of_book.Goals as goal

pub returns-in_err-header-clause-answers : goal.returns-in_err-header-clause-answers
returns-in_err-header-clause-answers g c rows clean holds sound right =
    let said : c.from_residual.result ≡ Err c.in_err-header.field-0.0 = search rules in
    subst (λ r. FollowsStep IsExactly r (tally_step (books_of rows) c.args.name.now)) (sym said)
    (none_returned IsExactly (λ (book : Book). Ok (book_tally book)) c.args.name.now
    (state g.S.Store c.args.conn.now) (state g.S.Store c.find_header.new.conn)
    c.in_err-header.field-0.0 c.in_err-header.ensures.finds rows clean holds sound)

pub returns-clause-answers : goal.returns-clause-answers
returns-clause-answers g c rows clean holds sound right =
    let name = c.args.name.now in
    let header = c.in_ok-header.header in
    let mid = state g.S.Store c.find_header.new.conn in
    let new = state g.S.Store c.tally_at.new.conn in
    let named = c.in_ok-header.ensures.finds rows
    (clean_before _ mid new c.tally_at.ensures.reads_only.survives clean) holds sound in
    in_book IsExactly rows name header (λ (book : Book). Ok (book_tally book)) c.tally_at.result
    named
    (over_then (state g.S.Store c.args.conn.now) mid new _ (λ k. AreCountsOf c.args.counts.now
    (books_of k) → IsBookNamed k name header
    → FollowsStep IsExactly c.tally_at.result
    (Ok (book_tally (row_book k (line_row name header)))))
    c.in_ok-header.ensures.unchanged c.tally_at.ensures.reads_only.survives
    c.tally_at.ensures.answers rows clean holds sound right named)

pub returns-clause-counts : goal.returns-clause-counts
returns-clause-counts g c rows clean holds sound right =
    let name = c.args.name.now in
    let header = c.in_ok-header.header in
    let mid = state g.S.Store c.find_header.new.conn in
    let new = state g.S.Store c.tally_at.new.conn in
    let named = c.in_ok-header.ensures.finds rows
    (clean_before _ mid new c.tally_at.ensures.reads_only.survives clean) holds sound in
    over_then (state g.S.Store c.args.conn.now) mid new _ (λ k. AreCountsOf c.args.counts.now
    (books_of k) → IsBookNamed k name header → AreCountsOf c.tally_at.new.counts (books_of k))
    c.in_ok-header.ensures.unchanged c.tally_at.ensures.reads_only.survives
    c.tally_at.ensures.counts rows clean holds sound right named

pub returns-clause-reads_only : goal.returns-clause-reads_only
returns-clause-reads_only g c =
    reads_then (state g.S.Store c.args.conn.now) (state g.S.Store c.find_header.new.conn)
    (state g.S.Store c.tally_at.new.conn) c.find_header.ensures.reads_only
    c.in_ok-header.ensures.unchanged c.tally_at.ensures.reads_only

pub returns-in_err-header-clause-store_fault : goal.returns-in_err-header-clause-store_fault
returns-in_err-header-clause-store_fault g c rows clean holds faultless =
    passed_cause c.from_residual.result c.in_err-header.field-0.0 _ c.from_residual.ensures.1
    (c.in_err-header.ensures.store_fault rows clean holds faultless)

pub returns-clause-store_fault : goal.returns-clause-store_fault
returns-clause-store_fault g c =
    then_faults (state g.S.Store c.args.conn.now) (state g.S.Store c.find_header.new.conn)
    (state g.S.Store c.tally_at.new.conn) _ _ c.args.name.now c.in_ok-header.header
    c.tally_at.result c.find_header.ensures.reads_only.survives
    c.in_ok-header.ensures.unchanged c.in_ok-header.ensures.finds
    c.tally_at.ensures.reads_only.survives c.tally_at.ensures.store_fault
