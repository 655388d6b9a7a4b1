-- The card of a move is stored in the target as its next change, with the reason `MoveIn`.
-- Given here: the columns are the numbers of the header after this change (`back_of`), which is
-- what the clauses of `write_member` ask for. For faults: the id and the next number fit, by the
-- premises, so no conversion of a number fails. What is left as a cause is memory, or the cause of
-- the write.
use Rattle.std.proofs.Common.{rules, ◌≡◌, ◌+◌, Some, option_copied, pos, to_z, of_z, w64, ap, subst}
use Rattle.std.proofs.Common.{sym, arith}
use Rattle.sqlite.specs.Held.{state}
use Rattle.store_writes.specs.AcceptedChanges.{AcceptsMemberOf}
use Rattle.store_writes.proofs.TransactionFaults.{error_faults, memory_cause}
use Rattle.book_model.specs.declared.change.Change.TheVariants.{Stores}
use Rattle.book_model.specs.declared.change.StoreReason.TheVariants.{MoveIn}
use Rattle.book_model.specs.Counting.{counts_after_change}
use Rattle.store_tables.specs.Books.{numbers_of}
use Rattle.store_rows.specs.ChangeLaws.{IsRowOfChange, header_after}
use Rattle.store_rows.specs.TableBooks.{numbers_row}
use Rattle.store_lookups.proofs.FindLemmas.{back_of}
use Rattle.store_writes.specs.TableChanges.{AreHeaderColumns}
use Rattle.store_removals.proofs.moving.add_to_target.Given as given
use Rattle.store_removals.proofs.moving.add_to_target.Goals as goal
use Rattle.store_removals.proofs.moving.add_to_target.Goals.{After-write_member}

-- ---- the columns of the header

module _ (g : given.Over) (c : After-write_member g) where
  id : to_z w64 (of_z w64 c.in_ok-id.id) ≡ pos c.args.header.id
  id = back_of c.in_ok-id.id c.id.result c.args.header.id c.in_ok-id.ensures.ok
      c.in_ok-id.ensures.fits c.id.ensures

  at : to_z w64 (of_z w64 c.in_ok-changed.changed) ≡ pos (c.args.header.number + 1)
  at = back_of c.in_ok-changed.changed (c.number.result + 1) (c.args.header.number + 1)
      c.in_ok-changed.ensures.ok c.in_ok-changed.ensures.fits (ap (λ k. k + 1) c.number.ensures)

-- ---- the rows

pub returns-in-Ok-clause-books_after : goal.returns-in-Ok-clause-books_after
returns-in-Ok-clause-books_after g c legal text rows name clean inside line =
    let change = Stores c.args.card.now MoveIn in
    let p = (goal.at.returns-in-Ok-clause-books_after g c).After-write_member in
    let numbers : numbers_of c.in_ok-numbers.numbers ≡ numbers_row (c.args.header.number + 1)
    c.args.header.horizon (counts_after_change change c.args.header.counts) = search rules in
    let columns : AreHeaderColumns (header_after change c.args.header)
    (to_z w64 (of_z w64 c.in_ok-id.id)) c.in_ok-numbers.numbers =
    record { id_is = id g p; numbers = numbers } in
    let is : IsRowOfChange c.args.uid.now (option_copied (Some c.args.text)) change =
    record { legal = legal; canonical = text.canonical; card = ap Some text.reads_back } in
    c.in-Ok.ensures.books_after c.args.header change (at g p) is columns rows name clean inside line

pub returns-in-Ok-clause-keeps_commit : goal.returns-in-Ok-clause-keeps_commit
returns-in-Ok-clause-keeps_commit g c rows name clean inside line =
    let p = (goal.at.returns-in-Ok-clause-keeps_commit g c).After-write_member in
    c.in-Ok.ensures.keeps_commit c.args.header (id g p) rows name clean inside line

pub returns-clause-keeps_commit : goal.returns-clause-keeps_commit
returns-clause-keeps_commit g c rows name clean inside line =
    let p = (goal.at.returns-clause-keeps_commit g c).After-write_member in
    c.in-Err.ensures.keeps_commit c.args.header (id g p) rows name clean inside line

-- ---- faults

pub returns-in_err-numbers-clause-store_fault : goal.returns-in_err-numbers-clause-store_fault
returns-in_err-numbers-clause-store_fault g c fits rows name accepts below clean inside obeys =
    memory_cause c.from_residual-in_err-numbers.result c.in_err-numbers.field-0.0 _
    c.from_residual-in_err-numbers.ensures.1 (c.in_err-numbers.ensures.memory fits)

pub returns-in_err-id-clause-store_fault : goal.returns-in_err-id-clause-store_fault
returns-in_err-id-clause-store_fault g c fits rows name accepts below clean inside obeys =
    let great = c.in_err-id.ensures.too_great in
    let is = c.id.ensures in
    absurd (omega (arith, below, great, is))

pub returns-in_err-changed-clause-store_fault : goal.returns-in_err-changed-clause-store_fault
returns-in_err-changed-clause-store_fault g c fits rows name accepts below clean inside obeys =
    let great = c.in_err-changed.ensures.too_great in
    let is = c.number.ensures in
    absurd (omega (arith, fits, great, is))

pub returns-clause-store_fault : goal.returns-clause-store_fault
returns-clause-store_fault g c fits rows name accepts below clean inside obeys =
    let p = (goal.at.returns-clause-store_fault g c).After-write_member in
    let db = (state g.S.Store c.args.tx.now.conn.now).now in
    let ready = subst (λ z. AcceptsMemberOf db rows name c.args.header c.args.uid.now z
    (Some c.args.text.now)) (sym (at g p)) accepts in
    error_faults c.in-Err.error c.fault_of.result _ c.fault_of.ensures.value
    (c.in-Err.ensures.fails_from_outside rows name c.args.header (id g p) ready clean inside
    accepts.book.line.holds.schema obeys)

-- ---- the rows that the writes leave

pub returns-in-Ok-clause-obeys : goal.returns-in-Ok-clause-obeys
returns-in-Ok-clause-obeys g c rows name clean inside line =
    let p = (goal.at.returns-in-Ok-clause-obeys g c).After-write_member in
    c.in-Ok.ensures.obeys c.args.header (id g p) rows name clean inside line

pub returns-in-Ok-clause-takes_one_id : goal.returns-in-Ok-clause-takes_one_id
returns-in-Ok-clause-takes_one_id g c rows name clean inside line count free =
    let p = (goal.at.returns-in-Ok-clause-takes_one_id g c).After-write_member in
    c.in-Ok.ensures.takes_one_id c.args.header (id g p) rows name clean inside line count free
