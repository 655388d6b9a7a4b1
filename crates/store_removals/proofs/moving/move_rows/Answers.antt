-- The two halves of a move: the card is stored in the target, then removed from the source.
-- Given here: the second half runs on the rows that the first left. These still have the source's
-- row, with the same book, as the ids of the two differ (`from_line`); `rows_moved` joins both
-- changes. For faults: the first half takes at most one of two free ids (`fewer_ids`), and leaves
-- the next number of the source unused.
use Rattle.std.proofs.Common.{◌+◌, ◌^◌, None, Some, pos, refl, sym, subst, arith}
use Rattle.store_tables.specs.Acceptance.{IsShort}
use Rattle.store_tables.proofs.KeyedRows.{all_has}
use Rattle.store_rows.specs.TableBooks.{line_row, row_book}
use Rattle.store_lookups.specs.ChangeFaults.{KnowsMembers}
use Rattle.store_lookups.proofs.ChangeFaultLemmas.{header_fits}
use Rattle.store_lookups.proofs.StoreFaultLemmas.{later_cause, passed_cause}
use Rattle.store_writes.specs.AcceptedChanges.{AcceptsMemberOf}
use Rattle.store_writes.proofs.AcceptLemmas.{accepts_member, accepts_next, knows_members}
use Rattle.store_writes.proofs.AcceptLemmas.{legal_short}
use Rattle.store_writes.proofs.TransactionFaults.{fewer_ids}
use Rattle.sqlite.specs.Held.{state}
use Rattle.sqlite.specs.State.{HasCleanDisk}
use Rattle.sqlite.proofs.InsideLemmas.{keeps_then}
use Rattle.sqlite.proofs.StateLemmas.{survives_then}
use Rattle.std.proofs.lemmas.Result.{on_ok_weaker}
use Rattle.store_tables.proofs.SchemaCreationLemmas.{clean_before}
use Rattle.store_removals.proofs.MoveLemmas.{from_line, rows_moved, to_line}
use Rattle.store_removals.proofs.moving.move_rows.Goals as goal

pub returns-in_err-add_to_target-clause-keeps_commit :
    goal.returns-in_err-add_to_target-clause-keeps_commit
returns-in_err-add_to_target-clause-keeps_commit g c rows from to clean inside lines legal text =
    c.add_to_target.ensures.keeps_commit rows to clean inside (to_line _ rows from c.args.source to
    c.args.target lines)

pub returns-clause-books_after : goal.returns-clause-books_after
returns-clause-books_after g c rows from to clean inside lines legal text =
    let old = state g.S.Store c.args.tx.now.conn.now in
    let mid = state g.S.Store c.add_to_target.new.tx.conn.now in
    let new = state g.S.Store c.remove_from_source.new.tx.conn.now in
    let early : HasCleanDisk mid = clean_before _ mid new c.remove_from_source.ensures.survives
    clean in
    let first = c.in_ok-add_to_target.ensures.books_after legal text rows to early inside
    (to_line old.now rows from c.args.source to c.args.target lines) in
    let line = from_line old mid new rows from to c.args.source c.args.target c.args.uid.now
    c.args.card.now c.args.drop lines first in
    on_ok_weaker c.remove_from_source.result (rows_moved old mid new rows from to c.args.source
    c.args.target c.args.uid.now c.args.card.now c.args.drop lines first)
    (c.remove_from_source.ensures.books_after legal first.holds.rows_after from clean
    first.inside line)

pub returns-clause-keeps_commit : goal.returns-clause-keeps_commit
returns-clause-keeps_commit g c rows from to clean inside lines legal text =
    let old = state g.S.Store c.args.tx.now.conn.now in
    let mid = state g.S.Store c.add_to_target.new.tx.conn.now in
    let new = state g.S.Store c.remove_from_source.new.tx.conn.now in
    let early : HasCleanDisk mid = clean_before _ mid new c.remove_from_source.ensures.survives
    clean in
    let there = to_line old.now rows from c.args.source to c.args.target lines in
    let first = c.in_ok-add_to_target.ensures.books_after legal text rows to early inside there in
    let line = from_line old mid new rows from to c.args.source c.args.target c.args.uid.now
    c.args.card.now c.args.drop lines first in
    keeps_then old mid new (c.add_to_target.ensures.keeps_commit rows to early inside there)
    (c.remove_from_source.ensures.keeps_commit first.holds.rows_after from clean first.inside
    line)

pub returns-clause-survives : goal.returns-clause-survives
returns-clause-survives g c =
    survives_then (state g.S.Store c.args.tx.now.conn.now)
    (state g.S.Store c.add_to_target.new.tx.conn.now)
    (state g.S.Store c.remove_from_source.new.tx.conn.now) _ _ (λ _. ⊥) (λ _ db none. none)
    (λ _ db none. none) c.add_to_target.ensures.survives c.remove_from_source.ensures.survives

-- ---- faults

pub returns-in_err-add_to_target-clause-store_fault :
    goal.returns-in_err-add_to_target-clause-store_fault
returns-in_err-add_to_target-clause-store_fault g c from_fits to_fits drop_fits legal slim text rows
    from to lines accept free clean inside obeys =
    let db = (state g.S.Store c.args.tx.now.conn.now).now in
    let ready = accepts_member db rows to c.args.target c.args.uid.now (Some c.args.text.now)
    lines.holds accept free lines.has_target (legal_short c.args.uid.now legal) slim in
    passed_cause c.from_residual.result c.in_err-add_to_target.field-0.0 _ c.from_residual.ensures.1
    (c.in_err-add_to_target.ensures.store_fault to_fits rows to ready
    (header_fits rows to c.args.target accept lines.has_target).id clean inside obeys)

pub returns-clause-store_fault : goal.returns-clause-store_fault
returns-clause-store_fault g c from_fits to_fits drop_fits legal slim text rows from to lines accept
    free clean inside obeys =
    let old = state g.S.Store c.args.tx.now.conn.now in
    let mid = state g.S.Store c.add_to_target.new.tx.conn.now in
    let new = state g.S.Store c.remove_from_source.new.tx.conn.now in
    let early : HasCleanDisk mid = clean_before _ mid new c.remove_from_source.ensures.survives
    clean in
    let there = to_line old.now rows from c.args.source to c.args.target lines in
    let first = c.in_ok-add_to_target.ensures.books_after legal text rows to early inside there in
    let line = from_line old mid new rows from to c.args.source c.args.target c.args.uid.now
    c.args.card.now c.args.drop lines first in
    let left = first.holds.rows_after in
    let same = (first.holds.others (line_row from c.args.source) lines.has_source lines.apart).1 in
    let known : KnowsMembers (row_book left (line_row from c.args.source)) =
    subst KnowsMembers (sym same) (knows_members rows from c.args.source accept
    lines.has_source) in
    let name = all_has (λ b. IsShort b.name) rows.books (line_row from c.args.source)
    accept.short_names lines.has_source in
    let ids = c.in_ok-add_to_target.ensures.takes_one_id rows to early inside there 1
    (fewer_ids 2 (2 ^ 62) (old.now.trees 4) (omega arith) free.members) in
    let ready : AcceptsMemberOf mid.now left from c.args.source c.args.uid.now
    (pos (c.args.source.number + 1)) None =
    record {
      book = record { line = line; short = name };
      free_id = ids;
      member = accepts_next left from c.args.source c.args.uid.now None line.sound known
          (line_row from c.args.source) line.there refl (legal_short c.args.uid.now legal) tt;
    } in
    later_cause old mid new _ _ c.remove_from_source.result c.add_to_target.ensures.survives early
    c.remove_from_source.ensures.survives
    (c.remove_from_source.ensures.store_fault from_fits drop_fits left from ready
    (header_fits rows from c.args.source accept lines.has_source).id clean first.inside
    (c.in_ok-add_to_target.ensures.obeys rows to early inside there))
