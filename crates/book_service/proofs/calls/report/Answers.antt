use Rattle.std.proofs.Common.{List, ℕ, Ok, Err, subst}
use Rattle.book_model.specs.declared.denied.Denied.TheVariants.{Refused}
use Rattle.book_model.specs.declared.page.Page.{Page}
use Rattle.book_model.specs.CallOutcomes.{MatchesQuery}
use Rattle.book_model.specs.Pages.{IsReport, report_step}
use Rattle.book_service.specs.internal.RowSteps.{IsFirstDenial}
use Rattle.book_service.specs.Replies.{denied_reply}
use Rattle.book_service.specs.Texts.{ReadsToken}
use Rattle.book_service.proofs.CrashLemmas.{no_more, unless_error}
use Rattle.book_service.proofs.CallLemmas.{reports, reports_not}
use Rattle.book_service.proofs.calls.report.Goals as goal

pub returns-in-Ok-clause-step : goal.returns-in-Ok-clause-step
returns-in-Ok-clause-step g c = λ premise.
    let limits = g.S.BookStore.model.limits c.args.store.now in
    let old = g.S.BookStore.model.books c.args.store.now in
    let new = g.S.BookStore.model.books c.report.new.self in
    reports limits old new c.calls_follow_histories.ensures.reports c.args.book.now c.in-Ok.from
    c.args.token.now c.args.limit c.report.result
    (subst (λ (text : List ℕ). ReadsToken text (Ok c.in-Ok.from)) c.as_str.ensures c.in-Ok.ensures)
    (subst (λ (book : List ℕ). MatchesQuery IsReport c.report.result (report_step limits old book
    c.in-Ok.from c.args.limit) old new) c.as_str-in-Ok.ensures (c.report.ensures.step premise))

pub returns-in-Err-clause-step : goal.returns-in-Err-clause-step
returns-in-Err-clause-step g c = λ premise.
    let limits = g.S.BookStore.model.limits c.args.store.now in
    let old = g.S.BookStore.model.books c.args.store.now in
    let new = g.S.BookStore.model.books c.first_denial.new.store in
    reports_not limits old new c.calls_follow_histories.ensures.lines c.args.book.now
    c.args.token.now c.args.limit c.in-Err.refusal (denied_reply c.first_denial.result)
    (subst (λ (text : List ℕ). ReadsToken text (Err c.in-Err.refusal)) c.as_str.ensures
    c.in-Err.ensures)
    (subst (λ (book : List ℕ). IsFirstDenial old book (Refused c.in-Err.refusal)
    (denied_reply c.first_denial.result)) c.as_str-in-Err.ensures (c.first_denial.ensures.denies
    premise))
    (c.first_denial.ensures.reads_only premise)

pub returns-in-Err-clause-crash : goal.returns-in-Err-clause-crash
returns-in-Err-clause-crash g c =
    no_more g.S.BookStore.model c.args.store.now c.first_denial.new.store
    (Err c.first_denial.result) (Err c.first_denial.result) (unless_error (Unit {0}) Page
    c.first_denial.result (g.S.BookStore.model.premise c.first_denial.new.store))
    c.first_denial.ensures.crash
