use Rattle.std.proofs.Common.{pos, arith}
use Rattle.store_lookups.proofs.ChangeFaultLemmas.{header_fits}
use Rattle.store_writes.proofs.TransactionFaults.{memory_cause}
use Rattle.store_removals.proofs.FaultLemmas.{first_readable}
use Rattle.store_lookups.proofs.FindLemmas.{back_of}
use Rattle.store_removals.proofs.RemoveLemmas.{first_found, first_missing}
use Rattle.store_removals.proofs.drop_plans.oldest_removal_of.Goals as goal

pub returns-clause-first : goal.returns-clause-first
returns-clause-first g c rows clean holds sound name =
    let id = back_of c.in_ok-id.id c.id.result c.args.header.id c.in_ok-id.ensures.ok
    c.in_ok-id.ensures.fits c.id.ensures in
    let horizon = back_of c.in_ok-horizon.horizon c.horizon.result c.args.header.horizon
    c.in_ok-horizon.ensures.ok c.in_ok-horizon.ensures.fits c.horizon.ensures.value in
    first_found rows name c.args.header c.in-Ok.row c.in_ok-number.number sound
    (rw (id, horizon) at (c.in-Ok.ensures.returns rows.members clean holds.schema holds.members))
    c.in_ok-number.ensures.number

pub returns-in-Err-QueryReturnedNoRows-clause-first :
    goal.returns-in-Err-QueryReturnedNoRows-clause-first
returns-in-Err-QueryReturnedNoRows-clause-first g c rows clean holds sound name =
    let id = back_of c.in_ok-id.id c.id.result c.args.header.id c.in_ok-id.ensures.ok
    c.in_ok-id.ensures.fits c.id.ensures in
    let horizon = back_of c.in_ok-horizon.horizon c.horizon.result c.args.header.horizon
    c.in_ok-horizon.ensures.ok c.in_ok-horizon.ensures.fits c.horizon.ensures.value in
    first_missing rows name c.args.header sound
    (λ _. (rw (id, horizon) at (c.in-Err-QueryReturnedNoRows.ensures.returns rows.members clean
    holds.schema holds.members)) c.in-Err-QueryReturnedNoRows.field-0-is)

pub returns-in_err-id-clause-store_fault : goal.returns-in_err-id-clause-store_fault
returns-in_err-id-clause-store_fault g c rows name clean holds accept free there =
    let fits = (header_fits rows name c.args.header accept there).id in
    let great = c.in_err-id.ensures.too_great in
    let is = c.id.ensures in
    absurd (omega (arith, fits, great, is))

pub returns-in_err-horizon-clause-store_fault : goal.returns-in_err-horizon-clause-store_fault
returns-in_err-horizon-clause-store_fault g c rows name clean holds accept free there =
    let header = header_fits rows name c.args.header accept there in
    let fits = header.number in
    let low = header.horizon in
    let great = c.in_err-horizon.ensures.too_great in
    let is = c.horizon.ensures.value in
    absurd (omega (arith, fits, low, great, is))

pub returns-in_err-number-clause-store_fault : goal.returns-in_err-number-clause-store_fault
returns-in_err-number-clause-store_fault g c rows name clean holds accept free there =
    let id = back_of c.in_ok-id.id c.id.result c.args.header.id c.in_ok-id.ensures.ok
    c.in_ok-id.ensures.fits c.id.ensures in
    let horizon = back_of c.in_ok-horizon.horizon c.horizon.result c.args.header.horizon
    c.in_ok-horizon.ensures.ok c.in_ok-horizon.ensures.fits c.horizon.ensures.value in
    let found = first_readable (pos c.args.header.horizon) (pos c.args.header.id) rows.members
    c.in-Ok.row accept.faultless.members
    (rw (id, horizon) at (c.in-Ok.ensures.returns rows.members clean holds.schema
    holds.members)) in
    memory_cause c.from_residual-in_err-number.result c.in_err-number.field-0.0 _
    c.from_residual-in_err-number.ensures.1 (c.in_err-number.ensures.memory found.0 found.1)
