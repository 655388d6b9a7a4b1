-- The cards of an import are written one after the other, each as the next change of the book.
-- Given here: an induction over the cards so far. The invariant says that the tables hold the book
-- with the first `i` cards, and by `stored_more` one card more makes it the first `i + 1`. Each
-- card takes at most one id, so `count + i` free ids before the loop leave `count`.
-- If a clause of `write_next_card` promises less, `loop-card-preserved` breaks first.
use Rattle.std.proofs.Common.{rules, ◌≡◌, length, take, ap, subst, ◌∙◌, arith, sym, ◌+◌}
use Rattle.store_tables.specs.Acceptance.{HasFreeIds}
use Rattle.store_tables.proofs.FailureLemmas.{outside_later}
use Rattle.store_lookups.proofs.StoreFaultLemmas.{passed_cause}
use Rattle.store_writes.proofs.TransactionFaults.{fewer_ids}
use Rattle.store_inserts.specs.internal.Importing.{AcceptsCards}
use Rattle.store_inserts.proofs.KnownLemmas.{knows_stored}
use Rattle.std.proofs.Math.Seq.{take-length}
use Rattle.sqlite.specs.Held.{state}
use Rattle.sqlite.specs.State.{HasCleanDisk}
use Rattle.sqlite.proofs.StateLemmas.{survives_then}
use Rattle.store_tables.proofs.SchemaCreationLemmas.{clean_before}
use Rattle.store_tables.specs.SchemaCreation.{HoldsInTx}
use Rattle.store_inserts.specs.internal.Importing.{WritesBook, book_with_stored}
use Rattle.store_inserts.proofs.WroteLemmas.{keeps_commit_then}
use Rattle.store_inserts.proofs.ImportLemmas.{stored_more}
use Rattle.store_inserts.proofs.importing.write_next_cards.Goals as goal

pub returns-in_err-so_far-clause-keeps_commit : goal.returns-in_err-so_far-clause-keeps_commit
returns-in_err-so_far-clause-keeps_commit g c rows name book clean inside wrote =
    let old = state g.S.Store c.args.tx.now.conn.now in
    let mid = state g.S.Store c.loop-card.tx.conn.now in
    let new = state g.S.Store c.write_next_card.new.tx.conn.now in
    let first = c.loop-card.invariant in
    let early : HasCleanDisk mid = clean_before _ mid new c.write_next_card.ensures.survives
    clean in
    let here = first.holds rows name book early inside wrote in
    keeps_commit_then old mid new (first.kept rows name book early inside wrote)
    (c.in_err-so_far.ensures.keeps_commit rows name
    (book_with_stored book (take c.loop-card.card-index c.args.stored.now)) clean here.inside
    here.holds)

pub loop-card-preserved : goal.loop-card-preserved
loop-card-preserved g c =
    let old = state g.S.Store c.args.tx.now.conn.now in
    let mid = state g.S.Store c.loop-card.tx.conn.now in
    let new = state g.S.Store c.write_next_card.new.tx.conn.now in
    let first = c.loop-card.invariant in
    let i = c.loop-card.card-index in
    let stored = c.args.stored.now in
    let next = c.in_ok-so_far.ensures.next_header in
    let early : HasCleanDisk new → HasCleanDisk mid =
    clean_before _ mid new c.write_next_card.ensures.survives in
    record {
      same_reference = c.write_next_card.ensures.same_reference ∙ first.same_reference;
      holds = λ rows name book clean inside wrote.
          let here = first.holds rows name book (early clean) inside wrote in
          let there = c.in_ok-so_far.ensures.book_after rows name
          (book_with_stored book (take i stored)) clean here.inside here.holds in
          subst (λ b. HoldsInTx new (λ db. WritesBook db rows name c.in_ok-so_far.so_far b))
          (stored_more book stored i c.card-item.result c.loop-card-test.true c.card-item.is)
          there;
      number =
          let one = ap (λ f. f.number) next in
          let before = first.number in
          omega (arith, one, before);
      same_id = ap (λ f. f.id) next ∙ first.same_id;
      kept = λ rows name book clean inside wrote.
          let here = first.holds rows name book (early clean) inside wrote in
          keeps_commit_then old mid new (first.kept rows name book (early clean) inside wrote)
          (c.in_ok-so_far.ensures.keeps_commit rows name (book_with_stored book (take i stored))
          clean here.inside here.holds);
      survives = survives_then old mid new _ _ (λ _. ⊥) (λ _ db none. none) (λ _ db none. none)
          first.survives c.write_next_card.ensures.survives;
      obeys = λ rows name book clean inside wrote obeys.
          let here = first.holds rows name book (early clean) inside wrote in
          c.in_ok-so_far.ensures.obeys rows name (book_with_stored book (take i stored)) clean
          here.inside here.holds (first.obeys rows name book (early clean) inside wrote obeys);
      ids = λ rows name book clean inside wrote count free.
          let here = first.holds rows name book (early clean) inside wrote in
          (c.in_ok-so_far.ensures.takes_ids rows name (book_with_stored book (take i stored)) clean
          here.inside here.holds).0 count
          (first.ids rows name book (early clean) inside wrote (count + 1) (fewer_ids (count + 1 + i)
          (count + (i + 1)) (old.now.trees 4) (omega arith) free));
      imports = λ rows name book clean inside wrote.
          let here = first.holds rows name book (early clean) inside wrote in
          (c.in_ok-so_far.ensures.takes_ids rows name (book_with_stored book (take i stored)) clean
          here.inside here.holds).1 ∙ first.imports rows name book (early clean) inside wrote;
    }

pub returns-clause-book_after : goal.returns-clause-book_after
returns-clause-book_after g c rows name book clean inside wrote =
    let stored = c.args.stored.now in
    let end : c.loop-card.card-index ≡ length stored = search rules in
    let all : take c.loop-card.card-index stored ≡ stored = ap (λ i. take i stored) end
    ∙ take-length stored in
    subst (λ l. HoldsInTx (state g.S.Store c.loop-card.tx.conn.now) (λ db. WritesBook db rows name
    c.loop-card.so_far (book_with_stored book l))) all (c.loop-card.invariant.holds rows name
    book clean inside wrote)

pub returns-clause-next_number : goal.returns-clause-next_number
returns-clause-next_number g c =
    let end : c.loop-card.card-index ≡ length c.args.stored.now = search rules in
    let number = c.loop-card.invariant.number in
    omega (arith, number, end)

pub returns-clause-obeys : goal.returns-clause-obeys
returns-clause-obeys g c rows name book clean inside wrote obeys =
    c.loop-card.invariant.obeys rows name book clean inside wrote obeys

pub returns-clause-takes_ids : goal.returns-clause-takes_ids
returns-clause-takes_ids g c rows name book clean inside wrote =
    let old = state g.S.Store c.args.tx.now.conn.now in
    let end : c.loop-card.card-index ≡ length c.args.stored.now = search rules in (
      λ count free. c.loop-card.invariant.ids rows name book clean inside wrote count
          (subst (λ n. HasFreeIds (count + n) (old.now.trees 4)) (sym end) free),
      c.loop-card.invariant.imports rows name book clean inside wrote,
    )

-- ---- faults

pub returns-in_err-so_far-clause-store_fault : goal.returns-in_err-so_far-clause-store_fault
returns-in_err-so_far-clause-store_fault g c rows name book accepts clean inside obeys =
    let old = state g.S.Store c.args.tx.now.conn.now in
    let mid = state g.S.Store c.loop-card.tx.conn.now in
    let new = state g.S.Store c.write_next_card.new.tx.conn.now in
    let first = c.loop-card.invariant in
    let i = c.loop-card.card-index in
    let stored = c.args.stored.now in
    let left = c.loop-card-test.true in
    let early : HasCleanDisk mid = clean_before _ mid new c.write_next_card.ensures.survives
    clean in
    let here = first.holds rows name book early inside accepts.wrote in
    let ids = first.ids rows name book early inside accepts.wrote 1
    (fewer_ids (1 + i) (length stored) (old.now.trees 4) (omega (arith, left))
    accepts.free_ids) in
    let ready : AcceptsCards mid.now rows name c.loop-card.so_far
    (book_with_stored book (take i stored)) 1 =
    record {
      wrote = here.holds;
      known = knows_stored (take i stored) book accepts.known;
      free_ids = ids;
      id = let fits = accepts.id in let same = first.same_id in
          omega (arith, fits, same);
    } in
    passed_cause c.from_residual.result c.in_err-so_far.field-0.0 _ c.from_residual.ensures.1
    (λ store. outside_later old mid new _ _ first.survives early c.write_next_card.ensures.survives
    (c.in_err-so_far.ensures.store_fault rows name (book_with_stored book (take i stored)) ready
    clean here.inside (first.obeys rows name book early inside accepts.wrote obeys) store))
