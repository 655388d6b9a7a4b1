-- The answer of an import is kept under its key.
-- Given here: each column is the number that was converted (`back_of`), and `kept_as` puts the
-- numbers in place of the columns of the new row. For faults: all numbers are below 2^63, so no
-- conversion fails, and the table accepts the row, as its key is unused (`accepts_key`).
-- A new number of the tally breaks `kept_as` first.
use Rattle.std.proofs.Common.{◌≡◌, pos, to_z, of_z, w64, refl, arith, subst, sym}
use Rattle.store_tables.specs.Acceptance.{AcceptsImport}
use Rattle.store_writes.proofs.TransactionFaults.{error_faults}
use Rattle.store_inserts.proofs.ImportFaults.{accepts_key}
use Rattle.sqlite.specs.Held.{state}
use Rattle.store_lookups.proofs.FindLemmas.{back_of}
use Rattle.store_inserts.proofs.WroteLemmas.{kept_as}
use Rattle.store_inserts.proofs.importing.insert_kept_import.Goals as goal

pub returns-in-Ok-clause-book_after : goal.returns-in-Ok-clause-book_after
returns-in-Ok-clause-book_after g c rows name book clean inside wrote free =
    let old = state g.S.Store c.args.tx.now.conn.now in
    let new = state g.S.Store c.insert_import.new.tx.conn.now in
    let tally = c.args.tally in
    let id : to_z w64 (of_z w64 c.in_ok-id.id) ≡ pos c.args.header.id =
    back_of c.in_ok-id.id c.id.result c.args.header.id c.in_ok-id.ensures.ok
    c.in_ok-id.ensures.fits c.id.ensures in
    let added : to_z w64 (of_z w64 c.in_ok-added.added) ≡ pos tally.added =
    back_of c.in_ok-added.added tally.added tally.added c.in_ok-added.ensures.ok
    c.in_ok-added.ensures.fits refl in
    let edited : to_z w64 (of_z w64 c.in_ok-edited.edited) ≡ pos tally.edited =
    back_of c.in_ok-edited.edited tally.edited tally.edited c.in_ok-edited.ensures.ok
    c.in_ok-edited.ensures.fits refl in
    let same : to_z w64 (of_z w64 c.in_ok-same.same) ≡ pos tally.same =
    back_of c.in_ok-same.same tally.same tally.same c.in_ok-same.ensures.ok
    c.in_ok-same.ensures.fits refl in
    let number : to_z w64 (of_z w64 c.in_ok-number.number) ≡ pos tally.number =
    back_of c.in_ok-number.number tally.number tally.number c.in_ok-number.ensures.ok
    c.in_ok-number.ensures.fits refl in
    kept_as old new rows name c.args.header book c.args.key.now tally wrote _ _ _ _ _ id added
    edited same number free
    (c.in-Ok.ensures.changes wrote.now.imports clean inside wrote.holds.schema
    wrote.within.sound.imports wrote.holds.imports)
    (c.in-Ok.ensures.writes wrote.now.imports clean inside wrote.holds.schema
    wrote.within.sound.imports wrote.holds.imports)

pub returns-in-Ok-clause-obeys : goal.returns-in-Ok-clause-obeys
returns-in-Ok-clause-obeys g c rows name book clean inside wrote obeys =
    (c.in-Ok.ensures.writes wrote.now.imports clean inside wrote.holds.schema
    wrote.within.sound.imports wrote.holds.imports).obeys

-- ---- faults

pub returns-in_err-id-clause-store_fault : goal.returns-in_err-id-clause-store_fault
returns-in_err-id-clause-store_fault g c added edited same number rows name book accepts clean
    inside obeys =
    let fits = accepts.id in
    let great = c.in_err-id.ensures.too_great in
    let is = c.id.ensures in
    absurd (omega (arith, fits, great, is))

pub returns-in_err-added-clause-store_fault : goal.returns-in_err-added-clause-store_fault
returns-in_err-added-clause-store_fault g c added edited same number rows name book accepts clean
    inside obeys =
    let great = c.in_err-added.ensures.too_great in
    absurd (omega (arith, great, added))

pub returns-in_err-edited-clause-store_fault : goal.returns-in_err-edited-clause-store_fault
returns-in_err-edited-clause-store_fault g c added edited same number rows name book accepts clean
    inside obeys =
    let great = c.in_err-edited.ensures.too_great in
    absurd (omega (arith, great, edited))

pub returns-in_err-same-clause-store_fault : goal.returns-in_err-same-clause-store_fault
returns-in_err-same-clause-store_fault g c added edited same number rows name book accepts clean
    inside obeys =
    let great = c.in_err-same.ensures.too_great in
    absurd (omega (arith, great, same))

pub returns-in_err-number-clause-store_fault : goal.returns-in_err-number-clause-store_fault
returns-in_err-number-clause-store_fault g c added edited same number rows name book accepts clean
    inside obeys =
    let great = c.in_err-number.ensures.too_great in
    absurd (omega (arith, great, number))

pub returns-in-Err-clause-store_fault : goal.returns-in-Err-clause-store_fault
returns-in-Err-clause-store_fault g c added edited same number rows name book accepts clean inside
    obeys =
    let old = state g.S.Store c.args.tx.now.conn.now in
    let wrote = accepts.wrote in
    let id : to_z w64 (of_z w64 c.in_ok-id.id) ≡ pos c.args.header.id =
    back_of c.in_ok-id.id c.id.result c.args.header.id c.in_ok-id.ensures.ok
    c.in_ok-id.ensures.fits c.id.ensures in
    let ready = subst (λ z. AcceptsImport wrote.now.books wrote.now.imports z c.args.key.now)
    (sym id) (accepts_key old.now rows name c.args.header book wrote c.args.key.now
    accepts.unused accepts.short) in
    error_faults c.in-Err.error c.fault_of.result _ c.fault_of.ensures.value
    (c.in-Err.ensures.fails_from_outside wrote.now.imports clean inside wrote.holds.schema
    wrote.within.sound.imports wrote.holds.imports wrote.now.books wrote.holds.books
    accepts.free_id ready clean inside wrote.holds.schema obeys)
