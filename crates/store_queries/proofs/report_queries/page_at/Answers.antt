use Rattle.std.proofs.Common.{sym}
use Rattle.store_lookups.proofs.FindLemmas.{back, back_of}
use Rattle.store_queries.proofs.ListQueryLemmas.{page_returned}
use Rattle.store_rows.specs.ReadLaws.{request_of}
use Rattle.std.proofs.Common.{arith}
use Rattle.store_tables.specs.Members.{by_changed, member_shown}
use Rattle.store_lookups.specs.StoreFaults.{IsFaultlessMember}
use Rattle.store_lookups.proofs.StoreFaultLemmas.{not_memory, only_memory}
use Rattle.store_queries.proofs.QueryFaultLemmas.{all_filtered, first_in_order}
use Rattle.store_queries.proofs.report_queries.page_at.Goals as goal

pub returns-in-Ok-clause-answers : goal.returns-in-Ok-clause-answers
returns-in-Ok-clause-answers g c rows clean holds sound name =
    let id = back_of c.in_ok-id.id c.id.result c.args.header.id c.in_ok-id.ensures.ok
    c.in_ok-id.ensures.fits c.id.ensures in
    let at = back c.in_ok-at.at c.args.mark.at c.in_ok-at.ensures.ok c.in_ok-at.ensures.fits in
    let base = back c.in_ok-base.base c.args.mark.base c.in_ok-base.ensures.ok
    c.in_ok-base.ensures.fits in
    page_returned (request_of rows name c.args.header c.args.mark c.args.size) c.page_of_rows.result
    (c.page_of_rows.ensures.page rows name sound (rw (
      id,
      at,
      base,
      sym c.as_slice.ensures.value,
    ) at (c.in-Ok.ensures.returns rows.members clean holds.schema
    holds.members))) c.page_of_rows.ensures.fault

pub returns-in_err-id-clause-store_fault : goal.returns-in_err-id-clause-store_fault
returns-in_err-id-clause-store_fault g c at base fits =
    absurd (omega (arith, fits.id, c.in_err-id.ensures.too_great, c.id.ensures))

pub returns-in_err-at-clause-store_fault : goal.returns-in_err-at-clause-store_fault
returns-in_err-at-clause-store_fault g c at base fits =
    absurd (omega (arith, at, c.in_err-at.ensures.too_great))

pub returns-in_err-base-clause-store_fault : goal.returns-in_err-base-clause-store_fault
returns-in_err-base-clause-store_fault g c at base fits =
    absurd (omega (arith, base, c.in_err-base.ensures.too_great))

pub returns-in-Ok-clause-store_fault : goal.returns-in-Ok-clause-store_fault
returns-in-Ok-clause-store_fault g c at base fits rows clean holds faultless =
    let shown = first_in_order IsFaultlessMember by_changed member_shown _ _ c.in-Ok.rows.items
    (all_filtered IsFaultlessMember _ rows.members faultless.members)
    (c.in-Ok.ensures.returns rows.members clean holds.schema holds.members) in
    only_memory c.page_of_rows.result _
    ((rw c.as_slice.ensures.value at c.page_of_rows.ensures.memory) shown)

pub returns-in-Err-clause-store_fault : goal.returns-in-Err-clause-store_fault
returns-in-Err-clause-store_fault g c at base fits rows clean holds faultless = λ store.
    c.in-Err.ensures.fails_from_outside clean holds.schema
    (not_memory c.in-Err.error c.fault_of.result c.fault_of.ensures.value store)
