use Rattle.store_lookups.proofs.FindLemmas.{back_of, kept_found, kept_missing}
use Rattle.store_tables.proofs.KeyedRows.{all_has}
use Rattle.store_rows.proofs.KeyedEntries.{has_filtered}
use Rattle.store_rows.specs.SoundTables.{IsReadableImport}
use Rattle.store_lookups.proofs.StoreFaultLemmas.{never_store, passed_cause}
use Rattle.store_lookups.proofs.lookups.find_import_tally.Goals as goal

pub returns-clause-tally : goal.returns-clause-tally
returns-clause-tally g c rows clean holds sound name =
    let id = back_of c.in_ok-id.id c.id.result c.args.header.id c.in_ok-id.ensures.ok
    c.in_ok-id.ensures.fits c.id.ensures in
    kept_found rows name c.args.header c.args.key.now c.in-Ok.row c.in_ok-tally.tally sound
    (rw id at (c.in-Ok.ensures.returns rows.imports clean holds.schema holds.imports))
    c.in_ok-tally.ensures.tally

pub returns-in-Err-QueryReturnedNoRows-clause-tally :
    goal.returns-in-Err-QueryReturnedNoRows-clause-tally
returns-in-Err-QueryReturnedNoRows-clause-tally g c rows clean holds sound name =
    let id = back_of c.in_ok-id.id c.id.result c.args.header.id c.in_ok-id.ensures.ok
    c.in_ok-id.ensures.fits c.id.ensures in
    kept_missing rows name c.args.header c.args.key.now
    (λ _. (rw id at (c.in-Err-QueryReturnedNoRows.ensures.returns rows.imports clean holds.schema
    holds.imports)) c.in-Err-QueryReturnedNoRows.field-0-is)

pub returns-in_err-tally-clause-store_fault : goal.returns-in_err-tally-clause-store_fault
returns-in_err-tally-clause-store_fault g c fits rows clean holds faultless =
    let found = c.in-Ok.ensures.returns rows.imports clean holds.schema holds.imports in
    let readable = all_has IsReadableImport rows.imports found.0 faultless.imports
    (has_filtered _ rows.imports found.0 found.1).0 in
    passed_cause c.from_residual-in_err-tally.result c.in_err-tally.field-0.0 _
    c.from_residual-in_err-tally.ensures.1 (never_store c.in_err-tally.field-0.0 _
    (c.in_err-tally.ensures.memory found.0 readable found.2))
