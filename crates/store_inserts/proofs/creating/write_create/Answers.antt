use Rattle.std.proofs.Common.{◌≡◌, pos, to_z, of_z, w64, arith, subst, sym}
use Rattle.sqlite.specs.Held.{state}
use Rattle.store_inserts.specs.internal.Creating.{AcceptsNewBook}
use Rattle.store_writes.proofs.TransactionFaults.{error_faults}
use Rattle.store_lookups.proofs.FindLemmas.{back}
use Rattle.store_inserts.proofs.creating.write_create.Goals as goal

pub returns-in-Ok-clause-atomic : goal.returns-in-Ok-clause-atomic
returns-in-Ok-clause-atomic g c rows clean line =
    let id : to_z w64 (of_z w64 c.in_ok-book.book) ≡ pos c.args.id =
    back c.in_ok-book.book c.args.id c.in_ok-book.ensures.ok c.in_ok-book.ensures.fits in
    let keep : to_z w64 (of_z w64 c.in_ok-most.most) ≡ pos c.args.keep =
    back c.in_ok-most.most c.args.keep c.in_ok-most.ensures.ok c.in_ok-most.ensures.fits in
    c.in-Ok.ensures.atomic c.args.id c.args.keep id keep rows clean line

pub returns-in-Ok-clause-crash : goal.returns-in-Ok-clause-crash
returns-in-Ok-clause-crash g c rows line =
    let id : to_z w64 (of_z w64 c.in_ok-book.book) ≡ pos c.args.id =
    back c.in_ok-book.book c.args.id c.in_ok-book.ensures.ok c.in_ok-book.ensures.fits in
    let keep : to_z w64 (of_z w64 c.in_ok-most.most) ≡ pos c.args.keep =
    back c.in_ok-most.most c.args.keep c.in_ok-most.ensures.ok c.in_ok-most.ensures.fits in
    c.in-Ok.ensures.crash c.args.id c.args.keep id keep rows line

pub returns-in-Err-clause-atomic : goal.returns-in-Err-clause-atomic
returns-in-Err-clause-atomic g c rows clean line =
    let id : to_z w64 (of_z w64 c.in_ok-book.book) ≡ pos c.args.id =
    back c.in_ok-book.book c.args.id c.in_ok-book.ensures.ok c.in_ok-book.ensures.fits in
    let keep : to_z w64 (of_z w64 c.in_ok-most.most) ≡ pos c.args.keep =
    back c.in_ok-most.most c.args.keep c.in_ok-most.ensures.ok c.in_ok-most.ensures.fits in
    c.in-Err.ensures.atomic c.args.id c.args.keep id keep rows clean line

pub returns-in-Err-clause-crash : goal.returns-in-Err-clause-crash
returns-in-Err-clause-crash g c rows line =
    let id : to_z w64 (of_z w64 c.in_ok-book.book) ≡ pos c.args.id =
    back c.in_ok-book.book c.args.id c.in_ok-book.ensures.ok c.in_ok-book.ensures.fits in
    let keep : to_z w64 (of_z w64 c.in_ok-most.most) ≡ pos c.args.keep =
    back c.in_ok-most.most c.args.keep c.in_ok-most.ensures.ok c.in_ok-most.ensures.fits in
    c.in-Err.ensures.crash c.args.id c.args.keep id keep rows line

-- ---- faults

pub returns-in_err-book-clause-store_fault : goal.returns-in_err-book-clause-store_fault
returns-in_err-book-clause-store_fault g c id_fits keep_fits rows clean accepts = let great =
    c.in_err-book.ensures.too_great in absurd (omega (arith, great, id_fits))

pub returns-in_err-most-clause-store_fault : goal.returns-in_err-most-clause-store_fault
returns-in_err-most-clause-store_fault g c id_fits keep_fits rows clean accepts = let great =
    c.in_err-most.ensures.too_great in absurd (omega (arith, great, keep_fits))

pub returns-in-Err-clause-store_fault : goal.returns-in-Err-clause-store_fault
returns-in-Err-clause-store_fault g c id_fits keep_fits rows clean accepts =
    let id : to_z w64 (of_z w64 c.in_ok-book.book) ≡ pos c.args.id =
    back c.in_ok-book.book c.args.id c.in_ok-book.ensures.ok c.in_ok-book.ensures.fits in
    let keep : to_z w64 (of_z w64 c.in_ok-most.most) ≡ pos c.args.keep =
    back c.in_ok-most.most c.args.keep c.in_ok-most.ensures.ok c.in_ok-most.ensures.fits in
    let ready = subst (λ z. AcceptsNewBook (state g.S.Store c.args.conn.now).now rows z
    c.args.name.now) (sym id) accepts in
    error_faults c.in-Err.error c.fault_of.result _ c.fault_of.ensures.value
    (c.in-Err.ensures.fails_from_outside c.args.id c.args.keep id keep rows ready clean
    accepts.lacks.holds.schema)
