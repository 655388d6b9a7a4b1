use Rattle.base_types.specs.TextMaps.{octet_map}
use Rattle.store_lookups.proofs.FindLemmas.{back_of}
use Rattle.store_queries.proofs.ListQueryLemmas.{cards_returned}
use Rattle.std.proofs.Common.{arith}
use Rattle.store_tables.specs.Members.{by_changed, member_shown}
use Rattle.store_lookups.specs.StoreFaults.{IsFaultlessMember}
use Rattle.store_lookups.proofs.StoreFaultLemmas.{not_memory, only_memory}
use Rattle.store_queries.proofs.QueryFaultLemmas.{all_filtered, all_in_order}
use Rattle.store_queries.proofs.list_queries.cards_at.Goals as goal

pub returns-in-Ok-clause-answers : goal.returns-in-Ok-clause-answers
returns-in-Ok-clause-answers g c rows clean holds sound name =
    let id = back_of c.in_ok-id.id c.id.result c.args.header.id c.in_ok-id.ensures.ok
    c.in_ok-id.ensures.fits c.id.ensures in
    cards_returned octet_map rows name c.args.header c.in-Ok.rows.items c.card_map.result sound
    (rw id at (c.in-Ok.ensures.returns rows.members clean holds.schema holds.members))
    (rw c.as_slice.ensures.value at c.card_map.ensures.cards) c.card_map.ensures.fault

pub returns-in_err-id-clause-store_fault : goal.returns-in_err-id-clause-store_fault
returns-in_err-id-clause-store_fault g c fits =
    absurd (omega (arith, fits.id, c.in_err-id.ensures.too_great, c.id.ensures))

pub returns-in-Ok-clause-store_fault : goal.returns-in-Ok-clause-store_fault
returns-in-Ok-clause-store_fault g c fits rows clean holds faultless =
    let shown = all_in_order IsFaultlessMember by_changed member_shown _ c.in-Ok.rows.items
    (all_filtered IsFaultlessMember _ rows.members faultless.members)
    (c.in-Ok.ensures.returns rows.members clean holds.schema holds.members) in
    only_memory c.card_map.result _ ((rw c.as_slice.ensures.value at c.card_map.ensures.memory)
    shown)

pub returns-in-Err-clause-store_fault : goal.returns-in-Err-clause-store_fault
returns-in-Err-clause-store_fault g c fits rows clean holds faultless = λ store.
    c.in-Err.ensures.fails_from_outside clean holds.schema
    (not_memory c.in-Err.error c.fault_of.result c.fault_of.ensures.value store)
