use Rattle.store_lookups.proofs.ReadLemmas.{named_found, named_missing}
use Rattle.store_tables.proofs.KeyedRows.{all_has}
use Rattle.store_rows.proofs.KeyedEntries.{has_filtered}
use Rattle.store_lookups.specs.StoreFaults.{IsFaultlessBook}
use Rattle.store_lookups.proofs.StoreFaultLemmas.{only_memory}
use Rattle.store_lookups.proofs.lookups.find_header.Goals as goal

pub returns-clause-finds : goal.returns-clause-finds
returns-clause-finds g c rows clean holds sound =
    named_found rows c.args.name.now c.in-Ok.row c.header_in.result sound
    (c.in-Ok.ensures.returns rows.books clean holds.schema holds.books)
    c.header_in.ensures.figures c.header_in.ensures.fault

pub returns-in-Err-QueryReturnedNoRows-clause-finds :
    goal.returns-in-Err-QueryReturnedNoRows-clause-finds
returns-in-Err-QueryReturnedNoRows-clause-finds g c rows clean holds sound =
    named_missing rows c.args.name.now (λ _. (c.in-Err-QueryReturnedNoRows.ensures.returns
    rows.books
    clean holds.schema holds.books) c.in-Err-QueryReturnedNoRows.field-0-is)

pub returns-clause-store_fault : goal.returns-clause-store_fault
returns-clause-store_fault g c rows clean holds faultless =
    let found = c.in-Ok.ensures.returns rows.books clean holds.schema holds.books in
    only_memory c.header_in.result _ (c.header_in.ensures.memory found.0
    (all_has IsFaultlessBook rows.books found.0 faultless.books
    (has_filtered _ rows.books found.0 found.1).0) found.2)
