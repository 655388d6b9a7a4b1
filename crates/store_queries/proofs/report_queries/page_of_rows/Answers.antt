use Rattle.std.proofs.Common.{refl, sym, arith}
use Rattle.store_rows.specs.ReadLaws.{request_of}
use Rattle.store_rows.proofs.ReportLemmas.{more_first, no_more_all}
use Rattle.store_lookups.specs.StoreFaults.{ShowsFaultlessMember}
use Rattle.store_lookups.proofs.StoreFaultLemmas.{passed_on}
use Rattle.store_queries.proofs.QueryFaultLemmas.{all_taken}
use Rattle.store_queries.proofs.report_queries.page_of_rows.Goals as goal

pub returns-then-rows-size-clause-page : goal.returns-then-rows-size-clause-page
returns-then-rows-size-clause-page c held name sound due =
    let outcome = c.in_ok-all.ensures.entries in
    c.whole_page.ensures.report (request_of held name c.args.header c.args.mark c.args.size)
    outcome.members
    (no_more_all held name c.args.header c.args.mark c.args.size c.args.rows.now outcome.members
    sound due (omega arith) outcome.shown)
    (sym c.id.ensures) (sym c.number.ensures) outcome.entries_are

pub returns-clause-page : goal.returns-clause-page
returns-clause-page c held name sound due =
    let outcome = c.in_ok-first.ensures.entries in
    c.truncated_page.ensures.report (request_of held name c.args.header c.args.mark c.args.size)
    outcome.members
    (more_first held name c.args.header c.args.mark c.args.size c.args.rows.now outcome.members
    sound due c.requires (omega arith) outcome.shown)
    (sym c.id-2.ensures) refl outcome.entries_are outcome.last_is

pub returns-in_err-all-clause-memory : goal.returns-in_err-all-clause-memory
returns-in_err-all-clause-memory c all =
    passed_on c.from_residual.result c.in_err-all.field-0.0 c.from_residual.ensures.1
    (c.in_err-all.ensures.memory all)

pub returns-in_err-first-clause-memory : goal.returns-in_err-first-clause-memory
returns-in_err-first-clause-memory c all =
    passed_on c.from_residual-in_err-first.result c.in_err-first.field-0.0
    c.from_residual-in_err-first.ensures.1 (c.in_err-first.ensures.memory
    (all_taken ShowsFaultlessMember c.args.size c.args.rows.now all))
