use Rattle.std.proofs.Common.{rules, ◌≡◌, ℕ, Ok}
use Rattle.book_model.specs.declared.token.Mark.{Mark}
use Rattle.book_model.specs.Books.{Book}
use Rattle.book_model.specs.Pages.{IsReport, requested_mark, page_size}
use Rattle.store_rows.specs.TableBooks.{row_book, line_row}
use Rattle.store_queries.specs.internal.QuerySteps.{request_for}
use Rattle.store_queries.proofs.ResultLemmas.{both_pass}
use Rattle.std.proofs.Common.{arith}
use Rattle.store_queries.proofs.report_queries.page_in.Goals as goal

pub returns-clause-answers : goal.returns-clause-answers
returns-clause-answers g c rows clean holds sound name =
    let book : Book = row_book rows (line_row name c.args.header) in
    let marked : requested_mark c.args.header.id c.args.header.number c.args.header.horizon
    c.args.token ≡ Ok c.in_ok-mark.mark = search rules in
    let sized : page_size c.args.limits.page_max c.args.limit ≡ Ok c.in_ok-size.size =
    search rules in
    both_pass IsReport (requested_mark book.id book.number book.horizon c.args.token)
    c.in_ok-mark.mark (page_size c.args.limits.page_max c.args.limit) c.in_ok-size.size
    (λ (mark : Mark) (size : ℕ). Ok (request_for book mark size)) c.page_at.result marked sized
    (c.page_at.ensures.answers rows clean holds sound name)

pub returns-clause-store_fault : goal.returns-clause-store_fault
returns-clause-store_fault g c fits rows clean holds faultless =
    c.page_at.ensures.store_fault (omega (
      arith,
      fits.number,
      c.in_ok-mark.ensures.at_within,
      c.number.ensures,
    )) (omega (
      arith,
      fits.number,
      c.in_ok-mark.ensures.base_within,
      c.number.ensures,
    )) fits rows clean holds faultless
