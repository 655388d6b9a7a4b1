-- A book's tombstones up to a number are forgotten in one transaction, whose columns are made here.
-- Given here: each column is the number that was converted (`back`, `back_of`). For faults: numbers
-- of rows that can be changed fit (`header_fits`), and the horizon is at most the book's number, so
-- no conversion of a number fails. What is left as a cause is memory, or the transaction's own.
use Rattle.std.proofs.Common.{rules, ◌≡◌, pos, to_z, of_z, w64, arith}
use Rattle.sqlite.specs.Held.{state}
use Rattle.store_lookups.proofs.ChangeFaultLemmas.{header_fits}
use Rattle.store_writes.proofs.AcceptLemmas.{accepts_header}
use Rattle.store_writes.proofs.TransactionFaults.{error_faults, memory_cause}
use Rattle.store_lookups.proofs.FindLemmas.{back, back_of}
use Rattle.store_writes.specs.TableChanges.{AreHeaderColumns}
use Rattle.store_writes.proofs.forgetting.write_forget.Given as given
use Rattle.store_writes.proofs.forgetting.write_forget.Goals as goal
use Rattle.store_writes.proofs.forgetting.write_forget.Goals.{After-commit_forget}

-- what the clauses share: the columns of the header
module _ (g : given.Over) (c : After-commit_forget g) where
  last_is : to_z w64 (of_z w64 c.in_ok-last.last) ≡ pos c.args.upto
  last_is = back c.in_ok-last.last c.args.upto c.in_ok-last.ensures.ok c.in_ok-last.ensures.fits

  columns : AreHeaderColumns (record c.args.header { horizon = c.args.upto })
      (to_z w64 (of_z w64 c.in_ok-id.id)) c.in_ok-numbers.numbers
  columns = record {
    id_is = back_of c.in_ok-id.id c.id.result c.args.header.id
        c.in_ok-id.ensures.ok c.in_ok-id.ensures.fits c.id.ensures;
    numbers = search rules;
  }

pub returns-in-Ok-clause-atomic : goal.returns-in-Ok-clause-atomic
returns-in-Ok-clause-atomic g c rows name clean line =
    let p = (goal.at.returns-in-Ok-clause-atomic g c).After-commit_forget in
    c.in-Ok.ensures.atomic c.args.header c.args.upto (last_is g p) (columns g p) rows name clean
    line

pub returns-in-Ok-clause-crash : goal.returns-in-Ok-clause-crash
returns-in-Ok-clause-crash g c rows name line =
    let p = (goal.at.returns-in-Ok-clause-crash g c).After-commit_forget in
    c.in-Ok.ensures.crash c.args.header c.args.upto (last_is g p) (columns g p) rows name line

pub returns-in-Err-clause-atomic : goal.returns-in-Err-clause-atomic
returns-in-Err-clause-atomic g c rows name clean line =
    let p = (goal.at.returns-in-Err-clause-atomic g c).After-commit_forget in
    c.in-Err.ensures.atomic c.args.header c.args.upto (last_is g p) (columns g p) rows name clean
    line

pub returns-in-Err-clause-crash : goal.returns-in-Err-clause-crash
returns-in-Err-clause-crash g c rows name line =
    let p = (goal.at.returns-in-Err-clause-crash g c).After-commit_forget in
    c.in-Err.ensures.crash c.args.header c.args.upto (last_is g p) (columns g p) rows name line

-- ---- faults

pub returns-in_err-id-clause-store_fault : goal.returns-in_err-id-clause-store_fault
returns-in_err-id-clause-store_fault g c low rows name clean holds accept free there =
    let fits = (header_fits rows name c.args.header accept there).id in
    let great = c.in_err-id.ensures.too_great in
    let is = c.id.ensures in
    absurd (omega (arith, fits, great, is))

pub returns-in_err-last-clause-store_fault : goal.returns-in_err-last-clause-store_fault
returns-in_err-last-clause-store_fault g c low rows name clean holds accept free there =
    let fits = (header_fits rows name c.args.header accept there).number in
    let great = c.in_err-last.ensures.too_great in
    absurd (omega (arith, fits, great, low))

pub returns-in_err-numbers-clause-store_fault : goal.returns-in_err-numbers-clause-store_fault
returns-in_err-numbers-clause-store_fault g c low rows name clean holds accept free there =
    let fits = (header_fits rows name c.args.header accept there).number in
    let number = c.number.ensures in
    let sum = c.counts.ensures.sum in
    memory_cause c.from_residual-in_err-numbers.result c.in_err-numbers.field-0.0 _
    c.from_residual-in_err-numbers.ensures.1
    (c.in_err-numbers.ensures.memory (omega (arith, fits, number)) (omega (arith, fits, low))
    (omega (arith, fits, sum)))

pub returns-in-Err-clause-store_fault : goal.returns-in-Err-clause-store_fault
returns-in-Err-clause-store_fault g c low rows name clean holds accept free there =
    let p = (goal.at.returns-in-Err-clause-store_fault g c).After-commit_forget in
    let db = (state g.S.Store c.args.conn.now).now in
    error_faults c.in-Err.error c.fault_of.result _ c.fault_of.ensures.value
    (c.in-Err.ensures.fails_from_outside c.args.header c.args.upto (last_is g p) (columns g p) rows
    name (accepts_header db rows name c.args.header holds accept there) clean holds.schema)
