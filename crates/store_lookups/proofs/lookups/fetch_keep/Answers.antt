use Rattle.std.proofs.Common.{arith, ap, ◌∙◌}
use Rattle.sqlite.specs.Order.{column}
use Rattle.store_tables.proofs.KeyedRows.{all_has}
use Rattle.store_rows.specs.SoundTables.{IsReadableKeep}
use Rattle.store_rows.specs.Values.{natural}
use Rattle.store_rows.proofs.KeyedEntries.{has_filtered}
use Rattle.store_lookups.proofs.ChangeFaultLemmas.{header_fits, keep_there}
use Rattle.store_lookups.proofs.StoreFaultLemmas.{cell, not_memory, only_memory}
use Rattle.store_lookups.proofs.FindLemmas.{back_of, keep_found_in}
use Rattle.store_lookups.proofs.lookups.fetch_keep.Goals as goal

pub returns-in-Ok-clause-keep : goal.returns-in-Ok-clause-keep
returns-in-Ok-clause-keep g c rows clean holds sound name =
    let id = back_of c.in_ok-id.id c.id.result c.args.header.id c.in_ok-id.ensures.ok
    c.in_ok-id.ensures.fits c.id.ensures in
    keep_found_in rows name c.args.header c.in-Ok.row c.number_in.result sound
    (rw id at (c.in-Ok.ensures.returns rows.keeps clean holds.schema holds.keeps))
    c.number_in.ensures.number

pub returns-in_err-id-clause-store_fault : goal.returns-in_err-id-clause-store_fault
returns-in_err-id-clause-store_fault g c rows name clean holds accept free there =
    let fits = (header_fits rows name c.args.header accept there).id in
    let great = c.in_err-id.ensures.too_great in
    let is = c.id.ensures in
    absurd (omega (arith, fits, great, is))

pub returns-in-Ok-clause-store_fault : goal.returns-in-Ok-clause-store_fault
returns-in-Ok-clause-store_fault g c rows name clean holds accept free there =
    let found = c.in-Ok.ensures.returns rows.keeps clean holds.schema holds.keeps in
    let readable = all_has IsReadableKeep rows.keeps found.0 accept.keeps
    (has_filtered _ rows.keeps found.0 found.1).0 in
    only_memory c.number_in.result _ (c.number_in.ensures.memory (natural found.0.keep)
    (ap (λ r. column r 0) found.2 ∙ cell found.0.keep readable))

pub returns-in-Err-clause-store_fault : goal.returns-in-Err-clause-store_fault
returns-in-Err-clause-store_fault g c rows name clean holds accept free there store =
    let id = back_of c.in_ok-id.id c.id.result c.args.header.id c.in_ok-id.ensures.ok
    c.in_ok-id.ensures.fits c.id.ensures in
    c.in-Err.ensures.fails_from_outside clean holds.schema
    (λ none. keep_there rows name c.args.header accept there
    ((rw id at (c.in-Err.ensures.returns rows.keeps clean holds.schema holds.keeps)) none))
    (not_memory c.in-Err.error c.fault_of.result c.fault_of.ensures.value store)
