use Rattle.store_lookups.proofs.FindLemmas.{back_of, live_found, live_missing}
use Rattle.store_tables.proofs.KeyedRows.{all_has}
use Rattle.store_rows.proofs.KeyedEntries.{has_filtered}
use Rattle.store_lookups.specs.StoreFaults.{IsFaultlessMember}
use Rattle.store_lookups.proofs.StoreFaultLemmas.{only_memory}
use Rattle.store_lookups.proofs.lookups.find_live.Goals as goal

pub returns-in-Ok-clause-live : goal.returns-in-Ok-clause-live
returns-in-Ok-clause-live g c rows clean holds sound name =
    let id = back_of c.in_ok-id.id c.id.result c.args.header.id c.in_ok-id.ensures.ok
    c.in_ok-id.ensures.fits c.id.ensures in
    live_found rows name c.args.header c.args.uid.now c.in-Ok.row c.live_in.result sound
    (rw id at (c.in-Ok.ensures.returns rows.members clean holds.schema holds.members))
    c.live_in.ensures.live

pub returns-in-Err-QueryReturnedNoRows-clause-live :
    goal.returns-in-Err-QueryReturnedNoRows-clause-live
returns-in-Err-QueryReturnedNoRows-clause-live g c rows clean holds sound name =
    let id = back_of c.in_ok-id.id c.id.result c.args.header.id c.in_ok-id.ensures.ok
    c.in_ok-id.ensures.fits c.id.ensures in
    live_missing rows name c.args.header c.args.uid.now
    (λ _. (rw id at (c.in-Err-QueryReturnedNoRows.ensures.returns rows.members clean holds.schema
    holds.members)) c.in-Err-QueryReturnedNoRows.field-0-is)

pub returns-in-Ok-clause-store_fault : goal.returns-in-Ok-clause-store_fault
returns-in-Ok-clause-store_fault g c fits rows clean holds faultless =
    let found = c.in-Ok.ensures.returns rows.members clean holds.schema holds.members in
    only_memory c.live_in.result _ (c.live_in.ensures.memory found.0
    (all_has IsFaultlessMember rows.members found.0 faultless.members
    (has_filtered _ rows.members found.0 found.1).0).readable found.2)
