use Rattle.std.proofs.Common.{ℕ, List, Option, Ok, Err, Result, inl, inr, refl, subst}
use Rattle.book_model.specs.declared.denied.Denied.{Denied}
use Rattle.book_model.specs.declared.denied.Denied.TheVariants.{Refused, Fault}
use Rattle.book_model.specs.declared.denied.Fault.TheVariants.{Memory}
use Rattle.book_model.specs.declared.page.Page.{Page}
use Rattle.book_model.specs.declared.token.Token.{Token}
use Rattle.book_model.specs.CallOutcomes.{MatchesQuery}
use Rattle.book_model.specs.Pages.{IsReport, report_step}
use Rattle.book_commands.specs.declared.reply.Reply.TheVariants as reply
use Rattle.sync_core.specs.StoreCrashes.{LeavesNoMore}
use Rattle.book_service.proofs.CrashLemmas.{ask_leaves}
use Rattle.book_service.proofs.DevicePageLemmas.{received_whole, received_part, returned_refusal}
use Rattle.book_service.proofs.device_pages.next_page.Goals as goal
use Rattle.book_service.proofs.device_pages.next_page.Goals.{After-report}

-- what the store reported to the device, by its name and token
read : (g : _) (c : After-report g) (r : Result Page Denied)
    → MatchesQuery IsReport r (report_step (g.S.BookStore.model.limits c.args.store.now)
    (g.S.BookStore.model.books c.args.store.now) c.book.result.now c.token.result c.args.limit)
    (g.S.BookStore.model.books c.args.store.now) (g.S.BookStore.model.books c.report.new.self)
    → MatchesQuery IsReport r (report_step (g.S.BookStore.model.limits c.args.store.now)
    (g.S.BookStore.model.books c.args.store.now) c.args.device.now.book c.args.device.now.token
    c.args.limit) (g.S.BookStore.model.books c.args.store.now)
    (g.S.BookStore.model.books c.report.new.self)
read g c r reads =
    let limits = g.S.BookStore.model.limits c.args.store.now in
    let old = g.S.BookStore.model.books c.args.store.now in
    let new = g.S.BookStore.model.books c.report.new.self in
    subst (λ (book : List ℕ). MatchesQuery IsReport r (report_step limits old book
    c.args.device.now.token c.args.limit) old new) c.book.ensures
    (subst (λ (token : Option Token). MatchesQuery IsReport r
    (report_step limits old c.book.result.now token c.args.limit) old new) c.token.ensures
    reads)

pub returns-in-Ok-apply-clause-handled : goal.returns-in-Ok-apply-clause-handled
returns-in-Ok-apply-clause-handled g c = λ premise.
    received_whole (g.S.BookStore.model.limits c.args.store.now)
    (g.S.BookStore.model.books c.args.store.now) (g.S.BookStore.model.books c.report.new.self)
    c.reports_refine_histories.ensures c.args.device.now c.apply.new.self c.args.limit
    c.in-Ok.page (read g (goal.at.returns-in-Ok-apply-clause-handled g c).After-report
    (Ok c.in-Ok.page) (c.in-Ok.ensures.step premise)) c.in-Ok-apply.ensures.ok

pub returns-in-Err-clause-handled : goal.returns-in-Err-clause-handled
returns-in-Err-clause-handled g c = λ premise.
    received_part (g.S.BookStore.model.limits c.args.store.now)
    (g.S.BookStore.model.books c.args.store.now) (g.S.BookStore.model.books c.report.new.self)
    c.reports_refine_histories.ensures c.args.device.now c.apply.new.self c.args.limit
    c.in-Ok.page (read g (goal.at.returns-in-Err-clause-handled g c).After-report (Ok c.in-Ok.page)
    (c.in-Ok.ensures.step premise)) c.in-Err.ensures.part

pub returns-in-Err-Refused-clause-handled : goal.returns-in-Err-Refused-clause-handled
returns-in-Err-Refused-clause-handled g c = λ premise.
    returned_refusal (g.S.BookStore.model.limits c.args.store.now)
    (g.S.BookStore.model.books c.args.store.now) (g.S.BookStore.model.books c.report.new.self)
    c.reports_refine_histories.ensures c.args.device.now c.reset_if_token_refused.new.device
    c.args.limit
    c.in-Err-Refused.refusal
    (read g (goal.at.returns-in-Err-Refused-clause-handled g c).After-report
    (Err (Refused c.in-Err-Refused.refusal))
    (subst (λ (d : Denied). MatchesQuery {A = Page} IsReport (Err d)
    (report_step (g.S.BookStore.model.limits c.args.store.now)
    (g.S.BookStore.model.books c.args.store.now) c.book.result.now c.token.result c.args.limit)
    (g.S.BookStore.model.books c.args.store.now) (g.S.BookStore.model.books c.report.new.self))
    c.in-Err-Refused.field-0-is (c.in-Err-Refused.ensures.step premise)))
    c.reset_if_token_refused.ensures

pub returns-in-Ok-apply-clause-crash : goal.returns-in-Ok-apply-clause-crash
returns-in-Ok-apply-clause-crash g c =
    ask_leaves g.S.BookStore.model c.args.store.now c.report.new.self (Ok c.in-Ok.page)
    (reply.Page c.in-Ok.page) c.args.device.now c.apply.new.self (λ holds. inl holds)
    c.in-Ok.ensures.crash

pub returns-in-Err-clause-crash : goal.returns-in-Err-clause-crash
returns-in-Err-clause-crash g c =
    ask_leaves g.S.BookStore.model c.args.store.now c.report.new.self (Ok c.in-Ok.page)
    (reply.Fault Memory) c.args.device.now c.apply.new.self (λ holds. inl holds)
    c.in-Ok.ensures.crash

pub returns-in-Err-Refused-clause-crash : goal.returns-in-Err-Refused-clause-crash
returns-in-Err-Refused-clause-crash g c =
    ask_leaves g.S.BookStore.model c.args.store.now c.report.new.self
    (Err (Refused c.in-Err-Refused.refusal)) (reply.Refused c.in-Err-Refused.refusal)
    c.args.device.now c.reset_if_token_refused.new.device (λ holds. inl holds)
    (subst (λ (d : Denied). LeavesNoMore g.S.BookStore.model {A = Page} c.args.store.now
    c.report.new.self (Err d)) c.in-Err-Refused.field-0-is c.in-Err-Refused.ensures.crash)

pub returns-in-Err-Fault-clause-crash : goal.returns-in-Err-Fault-clause-crash
returns-in-Err-Fault-clause-crash g c =
    ask_leaves g.S.BookStore.model c.args.store.now c.report.new.self
    (Err (Fault c.in-Err-Fault.fault)) (reply.Fault c.in-Err-Fault.fault) c.args.device.now
    c.args.device.now (λ holds. inr (tt, refl))
    (subst (λ (d : Denied). LeavesNoMore g.S.BookStore.model {A = Page} c.args.store.now
    c.report.new.self (Err d)) c.in-Err-Fault.field-0-is c.in-Err-Fault.ensures.crash)
