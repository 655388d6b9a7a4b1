-- In a new store, the put of a card creates it with version 1, and the report has this card only.
-- Given here: the histories after each call: no book, the empty book (`with_book`), the book with
-- the card (`with_card`). Each follows by the law that the call refines histories, under the
-- standard limits, which every call keeps. There nothing is refused, so an error is lack of memory.
-- If a limit's standard value changes, `are_standard` breaks first.
use Rattle.std.proofs.Common.{Ok, Err, None, Result, sym, subst, ◌∙◌, ◌≡◌}
use Rattle.std.proofs.lemmas.Result.{err_from_is_err_and}
use Rattle.std.specs.Prelude.{codes, MatchResult}
use Rattle.book_model.specs.declared.answers.PutAnswer.{PutAnswer}
use Rattle.book_model.specs.declared.answers.PutAnswer.TheVariants.{Created}
use Rattle.book_model.specs.declared.denied.Denied.{Denied}
use Rattle.book_model.specs.declared.page.Page.{Page}
use Rattle.book_model.specs.Bounds.{Bounds}
use Rattle.book_model.specs.CallOutcomes.{MatchesStep, MatchesQuery, IfFault, IsOutOfMemory}
use Rattle.book_model.specs.CallOutcomes.{denied_no_memory}
use Rattle.book_model.specs.Pages.{IsReport, report_step}
use Rattle.book_model.specs.Putting.{put_step}
use Rattle.book_laws.specs.Refinement.{AreHistoriesOf}
use Rattle.cli_orders.specs.TryResults.{first_page}
use Rattle.cli_orders.proofs.FirstPathLemmas.{AreStandard, Did, are_standard, with_book, with_card}
use Rattle.cli_orders.proofs.FirstPathLemmas.{book_made, card_put, page_given}
use Rattle.cli_orders.proofs.try_result.put_and_report.Goals as goal
use Rattle.cli_orders.proofs.try_result.put_and_report.Goals.{After-create_book, In_ok-create_book}
use Rattle.cli_orders.proofs.try_result.put_and_report.Goals.{After-put, After-report}

-- the store's limits are the standard ones
standard : (c : After-create_book) → AreStandard c.new-store.result.limits
standard c = subst AreStandard (sym (c.new-store.ensures.limits ∙ c.standard.ensures)) are_standard

-- after the first call the rows are those of the one book
with_book_made : (c : In_ok-create_book) → AreHistoriesOf c.create_book.new.self.books with_book
with_book_made c =
    (book_made c.new-store.result.limits (standard (goal.at.In_ok-create_book c).After-create_book)
    c.empty_stores_have_no_histories.ensures c.create_refines_histories.ensures
    (Ok c.in_ok-create_book.field-0) _ _ c.new-store.ensures.books
    c.in_ok-create_book.ensures.step tt).1

pub returns-in_err-create_book-clause-only_memory :
    goal.returns-in_err-create_book-clause-only_memory
returns-in_err-create_book-clause-only_memory c =
    let p = err_from_is_err_and c.from_residual.result c.from_residual.ensures.1 in
    rw (p.1, p.2) (book_made c.new-store.result.limits
    (standard (goal.at.returns-in_err-create_book-clause-only_memory c).After-create_book)
    c.empty_stores_have_no_histories.ensures c.create_refines_histories.ensures
    (Err c.in_err-create_book.field-0.0) _ _ c.new-store.ensures.books
    c.in_err-create_book.ensures.step c.in_err-create_book.ensures.fault)

-- the limits stay, so the second call's step is one under the first limits
put_did : (c : After-put) (r : Result PutAnswer Denied)
    → MatchesStep r (put_step c.create_book.new.self.limits c.create_book.new.self.books
    (codes "try") c.args.card.now None) c.create_book.new.self.books c.put.new.self.books
    → IfFault r IsOutOfMemory
    → Did r (Created 1) (with_card c.args.card.now) c.put.new.self.books
put_did c r does sound = card_put c.new-store.result.limits
    (standard (goal.at.After-put c).After-create_book) c.put_refines_histories.ensures
    c.args.card.now r _ _
    (with_book_made (goal.at.After-put c).In_ok-create_book)
    (subst (λ (l : Bounds). MatchesStep r (put_step l c.create_book.new.self.books (codes "try")
    c.args.card.now None) c.create_book.new.self.books c.put.new.self.books)
    c.in_ok-create_book.ensures.terms.limits does)
    sound

pub returns-in_err-put-clause-only_memory : goal.returns-in_err-put-clause-only_memory
returns-in_err-put-clause-only_memory c =
    let p = err_from_is_err_and c.from_residual-in_err-put.result
    c.from_residual-in_err-put.ensures.1 in
    rw (p.1, p.2) (put_did (goal.at.returns-in_err-put-clause-only_memory c).After-put
    (Err c.in_err-put.field-0.0) c.in_err-put.ensures.step c.in_err-put.ensures.fault)

report_gave : (c : After-report) (r : Result Page Denied)
    → MatchesQuery IsReport r (report_step c.put.new.self.limits c.put.new.self.books (codes "try")
    None None) c.put.new.self.books c.report.new.self.books → IfFault r IsOutOfMemory
    → MatchResult r (λ p. p ≡ first_page c.args.card.now) (λ denied. denied ≡ denied_no_memory)
report_gave c r reads sound = page_given c.new-store.result.limits
    (standard (goal.at.After-report c).After-create_book) c.reports_refine_histories.ensures
    c.args.card.now r _ _
    (put_did (goal.at.After-report c).After-put (Ok c.in_ok-put.put) c.in_ok-put.ensures.step tt).1
    (subst (λ (l : Bounds). MatchesQuery IsReport r (report_step l c.put.new.self.books
    (codes "try") None None) c.put.new.self.books c.report.new.self.books)
    (c.in_ok-put.ensures.terms.limits ∙ c.in_ok-create_book.ensures.terms.limits) reads)
    sound

pub returns-in_err-page-clause-only_memory : goal.returns-in_err-page-clause-only_memory
returns-in_err-page-clause-only_memory c =
    let p = err_from_is_err_and c.from_residual-in_err-page.result
    c.from_residual-in_err-page.ensures.1 in
    rw (p.1, p.2) (report_gave (goal.at.returns-in_err-page-clause-only_memory c).After-report
    (Err c.in_err-page.field-0.0) c.in_err-page.ensures.step c.in_err-page.ensures.fault)

pub returns-clause-result_is : goal.returns-clause-result_is
returns-clause-result_is c = record {
  put = (put_did (goal.at.returns-clause-result_is c).After-put (Ok c.in_ok-put.put)
      c.in_ok-put.ensures.step tt).0;
  page = report_gave (goal.at.returns-clause-result_is c).After-report (Ok c.in_ok-page.page)
      c.in_ok-page.ensures.step tt;
}
