-- A deletion that makes its book forget up to a number is written in one transaction.
-- Given here: the columns are the numbers of the header after both (`back`, `back_of`), and
-- `map_err` keeps the outcome of the transaction (`mapped_atomic`). For faults: all numbers fit, by
-- the premises and `header_fits`, so no conversion of a number fails; and the table accepts the
-- tombstone, as its number is unused (`accepts_member`).
use Rattle.std.proofs.Common.{rules, ◌≡◌, ◌+◌, pos, to_z, of_z, w64, ap, None, arith, subst, sym}
use Rattle.store_lookups.proofs.ChangeFaultLemmas.{header_fits}
use Rattle.store_writes.specs.AcceptedChanges.{AcceptsMemberOf}
use Rattle.store_writes.proofs.AcceptLemmas.{accepts_member, legal_short}
use Rattle.store_writes.proofs.TransactionFaults.{mapped_faults, memory_cause}
use Rattle.sqlite.specs.Held.{state}
use Rattle.book_model.specs.declared.change.RemovalReason.TheVariants.{Deletion}
use Rattle.store_lookups.proofs.FindLemmas.{back, back_of}
use Rattle.store_writes.specs.TableChanges.{AreHeaderColumns}
use Rattle.store_removals.specs.internal.Removals.{header_after_drop}
use Rattle.store_writes.proofs.ChangeLemmas.{mapped_atomic}
use Rattle.store_removals.proofs.removing.write_drop.Given as given
use Rattle.store_removals.proofs.removing.write_drop.Goals as goal
use Rattle.store_removals.proofs.removing.write_drop.Goals.{After-commit_removal_with_drop}

-- what the clauses share: the columns after the change
module _ (g : given.Over) (c : After-commit_removal_with_drop g) where
  changed_is : to_z w64 (of_z w64 c.in_ok-changed.changed) ≡ pos (c.args.header.number + 1)
  changed_is = back_of c.in_ok-changed.changed (c.number.result + 1) (c.args.header.number + 1)
      c.in_ok-changed.ensures.ok c.in_ok-changed.ensures.fits (ap (λ k. k + 1) c.number.ensures)

  last_is : to_z w64 (of_z w64 c.in_ok-last.last) ≡ pos c.args.upto
  last_is = back c.in_ok-last.last c.args.upto c.in_ok-last.ensures.ok c.in_ok-last.ensures.fits

  columns : AreHeaderColumns (header_after_drop Deletion c.args.upto c.args.header)
      (to_z w64 (of_z w64 c.in_ok-id.id)) c.in_ok-numbers.numbers
  columns = record {
    id_is = back_of c.in_ok-id.id c.id.result c.args.header.id
        c.in_ok-id.ensures.ok c.in_ok-id.ensures.fits c.id.ensures;
    numbers = search rules;
  }

pub returns-clause-atomic : goal.returns-clause-atomic
returns-clause-atomic g c legal rows name clean line =
    let p = (goal.at.returns-clause-atomic g c).After-commit_removal_with_drop in
    mapped_atomic (state g.S.Store c.args.conn.now)
    (state g.S.Store c.commit_removal_with_drop.new.conn) c.commit_removal_with_drop.result
    c.map_err.result _ _ c.map_err.ensures.cases
    (c.commit_removal_with_drop.ensures.atomic c.args.header Deletion c.args.upto legal
    (changed_is g p) (last_is g p) (columns g p) rows name clean line)

pub returns-clause-crash : goal.returns-clause-crash
returns-clause-crash g c legal rows name line =
    let p = (goal.at.returns-clause-crash g c).After-commit_removal_with_drop in
    c.commit_removal_with_drop.ensures.crash c.args.header Deletion c.args.upto legal
    (changed_is g p) (last_is g p) (columns g p) rows name line

-- ---- faults

pub returns-in_err-numbers-clause-store_fault : goal.returns-in_err-numbers-clause-store_fault
returns-in_err-numbers-clause-store_fault g c fits low legal rows name clean holds accept free
    there =
    memory_cause c.from_residual.result c.in_err-numbers.field-0.0 _ c.from_residual.ensures.1
    (c.in_err-numbers.ensures.memory fits low)

pub returns-in_err-id-clause-store_fault : goal.returns-in_err-id-clause-store_fault
returns-in_err-id-clause-store_fault g c fits low legal rows name clean holds accept free there =
    let below = (header_fits rows name c.args.header accept there).id in
    let great = c.in_err-id.ensures.too_great in
    let is = c.id.ensures in
    absurd (omega (arith, below, great, is))

pub returns-in_err-changed-clause-store_fault : goal.returns-in_err-changed-clause-store_fault
returns-in_err-changed-clause-store_fault g c fits low legal rows name clean holds accept free
    there =
    let great = c.in_err-changed.ensures.too_great in
    let is = c.number.ensures in
    absurd (omega (arith, fits, great, is))

pub returns-in_err-last-clause-store_fault : goal.returns-in_err-last-clause-store_fault
returns-in_err-last-clause-store_fault g c fits low legal rows name clean holds accept free there =
    let great = c.in_err-last.ensures.too_great in
    absurd (omega (arith, low, great))

pub returns-clause-store_fault : goal.returns-clause-store_fault
returns-clause-store_fault g c fits low legal rows name clean holds accept free there =
    let p = (goal.at.returns-clause-store_fault g c).After-commit_removal_with_drop in
    let db = (state g.S.Store c.args.conn.now).now in
    let member = accepts_member db rows name c.args.header c.args.uid.now None holds accept free
    there (legal_short c.args.uid.now legal) tt in
    let ready = subst (λ z. AcceptsMemberOf db rows name c.args.header c.args.uid.now z None)
    (sym (changed_is g p)) member in
    mapped_faults c.commit_removal_with_drop.result c.map_err.result _ _ (λ e d h. search (
      rules,
      h,
    )) c.map_err.ensures.cases
    (c.commit_removal_with_drop.ensures.fails_from_outside c.args.header Deletion c.args.upto legal
    (changed_is g p) (last_is g p) (columns g p) rows name ready clean holds.schema)
