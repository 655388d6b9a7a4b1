use Rattle.std.proofs.Common.{rules, ◌≡◌, Ok, Err, sym, subst}
use Rattle.sqlite.specs.Held.{state}
use Rattle.book_model.specs.Books.{Book}
use Rattle.book_model.specs.BookQueries.{book_line_in_rows, book_line_step, book_line_with}
use Rattle.store_rows.specs.TableBooks.{books_of}
use Rattle.store_lookups.specs.CallResults.{FollowsStep, IsExactly}
use Rattle.store_lookups.proofs.ReadLemmas.{in_book, none_returned, exact_value}
use Rattle.store_lookups.proofs.StoreFaultLemmas.{only_memory, passed_cause}
use Rattle.store_queries.proofs.book_queries.line_of_book.Goals as goal

pub returns-in_err-header-clause-answers : goal.returns-in_err-header-clause-answers
returns-in_err-header-clause-answers g c rows clean holds sound =
    let said : c.from_residual.result ≡ Err c.in_err-header.field-0.0 = search rules in
    subst (λ r. FollowsStep IsExactly r (book_line_step (books_of rows) c.args.name.now)) (sym said)
    (none_returned IsExactly (λ (book : Book). Ok (book_line_in_rows (c.args.name.now, book)))
    c.args.name.now (state g.S.Store c.args.conn.now) (state g.S.Store c.find_header.new.conn)
    c.in_err-header.field-0.0 c.in_err-header.ensures.finds rows clean holds sound)

pub returns-clause-answers : goal.returns-clause-answers
returns-clause-answers g c rows clean holds sound =
    in_book IsExactly rows c.args.name.now c.in_ok-header.header
    (λ (book : Book). Ok (book_line_in_rows (c.args.name.now, book))) c.line_with.result
    (c.in_ok-header.ensures.finds rows clean holds sound)
    (exact_value (book_line_with c.args.name.now c.in_ok-header.header.id
    c.in_ok-header.header.number c.in_ok-header.header.horizon) c.line_with.result
    c.line_with.ensures.line c.line_with.ensures.fault)

pub returns-in_err-header-clause-store_fault : goal.returns-in_err-header-clause-store_fault
returns-in_err-header-clause-store_fault g c rows clean holds faultless =
    passed_cause c.from_residual.result c.in_err-header.field-0.0 _ c.from_residual.ensures.1
    (c.in_err-header.ensures.store_fault rows clean holds faultless)

pub returns-clause-store_fault : goal.returns-clause-store_fault
returns-clause-store_fault g c rows clean holds faultless =
    only_memory c.line_with.result _ c.line_with.ensures.memory
