-- A moved card leaves the source by its next change, and the source forgets up to a number.
-- Given here: the columns are the numbers of the header after both, for the reason `MoveOut`
-- (`back`, `back_of`), which is what the clauses of `write_removal_with_drop` ask for. For faults:
-- all numbers fit, by the premises, so no conversion of a number fails.
use Rattle.std.proofs.Common.{rules, ◌≡◌, ◌+◌, pos, to_z, of_z, w64, ap, subst, sym, arith, None}
use Rattle.sqlite.specs.Held.{state}
use Rattle.store_writes.specs.AcceptedChanges.{AcceptsMemberOf}
use Rattle.store_writes.proofs.TransactionFaults.{error_faults, memory_cause}
use Rattle.book_model.specs.declared.change.Change.TheVariants.{TakesAway}
use Rattle.book_model.specs.declared.change.RemovalReason.TheVariants.{MoveOut}
use Rattle.book_model.specs.Counting.{counts_after_change}
use Rattle.store_tables.specs.Books.{numbers_of}
use Rattle.store_rows.specs.TableBooks.{numbers_row}
use Rattle.store_lookups.proofs.FindLemmas.{back, back_of}
use Rattle.store_writes.specs.TableChanges.{AreHeaderColumns}
use Rattle.store_removals.specs.internal.Removals.{header_after_drop}
use Rattle.store_removals.proofs.moving.remove_raising_horizon.Given as given
use Rattle.store_removals.proofs.moving.remove_raising_horizon.Goals as goal
use Rattle.store_removals.proofs.moving.remove_raising_horizon.Goals.{After-write_removal_with_drop}

-- ---- the columns of the header

module _ (g : given.Over) (c : After-write_removal_with_drop g) where
  id : to_z w64 (of_z w64 c.in_ok-id.id) ≡ pos c.args.header.id
  id = back_of c.in_ok-id.id c.id.result c.args.header.id c.in_ok-id.ensures.ok
      c.in_ok-id.ensures.fits c.id.ensures

  at : to_z w64 (of_z w64 c.in_ok-changed.changed) ≡ pos (c.args.header.number + 1)
  at = back_of c.in_ok-changed.changed (c.number.result + 1) (c.args.header.number + 1)
      c.in_ok-changed.ensures.ok c.in_ok-changed.ensures.fits (ap (λ k. k + 1) c.number.ensures)

-- ---- the rows

pub returns-in-Ok-clause-books_after : goal.returns-in-Ok-clause-books_after
returns-in-Ok-clause-books_after g c legal rows name clean inside line =
    let change = TakesAway MoveOut in
    let until : to_z w64 (of_z w64 c.in_ok-last.last) ≡ pos c.args.upto =
    back c.in_ok-last.last c.args.upto c.in_ok-last.ensures.ok c.in_ok-last.ensures.fits in
    let p = (goal.at.returns-in-Ok-clause-books_after g c).After-write_removal_with_drop in
    let numbers : numbers_of c.in_ok-numbers.numbers ≡ numbers_row (c.args.header.number + 1)
    c.args.upto (counts_after_change change c.args.header.counts) = search rules in
    let columns : AreHeaderColumns (header_after_drop MoveOut c.args.upto c.args.header)
    (to_z w64 (of_z w64 c.in_ok-id.id)) c.in_ok-numbers.numbers =
    record { id_is = id g p; numbers = numbers } in
    c.in-Ok.ensures.books_after c.args.header MoveOut c.args.upto legal (at g p) until columns rows
    name
    clean inside line

pub returns-in-Ok-clause-keeps_commit : goal.returns-in-Ok-clause-keeps_commit
returns-in-Ok-clause-keeps_commit g c rows name clean inside line =
    let p = (goal.at.returns-in-Ok-clause-keeps_commit g c).After-write_removal_with_drop in
    c.in-Ok.ensures.keeps_commit c.args.header (id g p) rows name clean inside line

pub returns-in-Err-clause-keeps_commit : goal.returns-in-Err-clause-keeps_commit
returns-in-Err-clause-keeps_commit g c rows name clean inside line =
    let p = (goal.at.returns-in-Err-clause-keeps_commit g c).After-write_removal_with_drop in
    c.in-Err.ensures.keeps_commit c.args.header (id g p) rows name clean inside line

-- ---- faults

pub returns-in_err-numbers-clause-store_fault : goal.returns-in_err-numbers-clause-store_fault
returns-in_err-numbers-clause-store_fault g c fits low rows name accepts below clean inside obeys =
    memory_cause c.from_residual.result c.in_err-numbers.field-0.0 _ c.from_residual.ensures.1
    (c.in_err-numbers.ensures.memory fits low)

pub returns-in_err-id-clause-store_fault : goal.returns-in_err-id-clause-store_fault
returns-in_err-id-clause-store_fault g c fits low rows name accepts below clean inside obeys =
    let great = c.in_err-id.ensures.too_great in
    let is = c.id.ensures in
    absurd (omega (arith, below, great, is))

pub returns-in_err-changed-clause-store_fault : goal.returns-in_err-changed-clause-store_fault
returns-in_err-changed-clause-store_fault g c fits low rows name accepts below clean inside obeys =
    let great = c.in_err-changed.ensures.too_great in
    let is = c.number.ensures in
    absurd (omega (arith, fits, great, is))

pub returns-in_err-last-clause-store_fault : goal.returns-in_err-last-clause-store_fault
returns-in_err-last-clause-store_fault g c fits low rows name accepts below clean inside obeys =
    let great = c.in_err-last.ensures.too_great in
    absurd (omega (arith, low, great))

pub returns-in-Err-clause-store_fault : goal.returns-in-Err-clause-store_fault
returns-in-Err-clause-store_fault g c fits low rows name accepts below clean inside obeys =
    let p = (goal.at.returns-in-Err-clause-store_fault g c).After-write_removal_with_drop in
    let db = (state g.S.Store c.args.tx.now.conn.now).now in
    let ready = subst (λ z. AcceptsMemberOf db rows name c.args.header c.args.uid.now z None)
    (sym (at g p)) accepts in
    error_faults c.in-Err.error c.fault_of.result _ c.fault_of.ensures.value
    (c.in-Err.ensures.fails_from_outside rows name c.args.header (id g p) ready clean inside
    accepts.book.line.holds.schema obeys)
