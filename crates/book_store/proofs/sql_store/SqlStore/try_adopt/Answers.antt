use Rattle.std.proofs.Common.{Err, rules, subst, sym}
use Rattle.std.specs.List.{AllByRecursion}
use Rattle.sqlite.specs.Held.{state}
use Rattle.sqlite.specs.State.{State, HasCleanDisk}
use Rattle.sqlite.specs.Tree.{Trees}
use Rattle.store_lookups.specs.StoredBooks.{stored_books}
use Rattle.store_rows.specs.SoundTables.{HoldsWellFormed}
use Rattle.store_schema.specs.StoredSchema.{ChangesNothing}
use Rattle.store_check.specs.OpenResults.{IsOpenResult, max_limits}
use Rattle.store_check.specs.TombstoneCounts.{IsCountOf}
use Rattle.book_model.specs.WellFormed.{IsWellFormed}
use Rattle.book_store.proofs.AdoptLemmas.{adopted_before, adopted_books, adopts_nothing}
use Rattle.book_store.proofs.AdoptLemmas.{closed_from_outside, early, error_result}
use Rattle.book_store.proofs.CountLemmas.{opened_counts, opened_formed, opened_leaves, opened_sound}
use Rattle.book_store.proofs.sql_store.SqlStore.try_adopt.Given as given
use Rattle.book_store.proofs.sql_store.SqlStore.try_adopt.Goals as goal
use Rattle.book_store.proofs.sql_store.SqlStore.try_adopt.Goals.{After-check_still_open}

-- ---- the tables passed, and the connection was tested

module _ (g : given.Over) (c : After-check_still_open g) where
  abbrev old : State
  old = state g.S.Store c.args.connection

  abbrev mid : State
  mid = state g.S.Store c.count_tombstones.new.conn

  abbrev new : State
  new = state g.S.Store c.check_still_open.new.conn

  earlier : HasCleanDisk new → HasCleanDisk mid
  earlier = early old mid new c.count_tombstones.ensures.changes_nothing
      c.check_still_open.ensures.reads_only c.assert_no_pending_writes.ensures

  -- the tables that were tested, by the limits of the test
  formed : HasCleanDisk mid → HoldsWellFormed c.standard.result old.now
  formed clean = (c.in-Ok.ensures.answers clean).0

  left : ChangesNothing old new
  left =
      adopts_nothing old mid new c.count_tombstones.ensures.changes_nothing
      c.check_still_open.ensures.reads_only c.assert_no_pending_writes.ensures
      (λ clean. (formed clean).holds.schema)

-- ---- the clauses

pub returns-in-Err-clause-refused : goal.returns-in-Err-clause-refused
returns-in-Err-clause-refused g c =
    let old = state g.S.Store c.args.connection in
    let limits = c.standard.ensures in
    record {
      left_unchanged = c.count_tombstones.ensures.changes_nothing;
      right_fault = λ clean. subst (λ b. IsOpenResult b old.now (Err c.in-Err.fault)) limits
          (c.in-Err.ensures.answers clean);
      from_outside = λ clean held. c.in-Err.ensures.opens clean
          (subst (λ b. HoldsWellFormed b old.now) (sym limits) held);
    }

pub returns-in-Err-check_still_open-clause-refused :
    goal.returns-in-Err-check_still_open-clause-refused
returns-in-Err-check_still_open-clause-refused g c =
    let p = (goal.at.returns-in-Err-check_still_open-clause-refused g c).After-check_still_open in
    let fault = c.in-Err-check_still_open.fault in
    let kind = c.in-Err-check_still_open.ensures.kind in
    record {
      left_unchanged = left g p;
      right_fault = λ clean. error_result max_limits (old g p).now fault kind;
      from_outside = λ clean held.
          closed_from_outside (old g p) (mid g p) (new g p)
          c.count_tombstones.ensures.changes_nothing c.check_still_open.ensures.reads_only
          c.assert_no_pending_writes.ensures fault kind held.holds.schema
          (λ has. c.in-Err-check_still_open.ensures.from_outside clean has) clean;
    }

pub returns-clause-well_formed : goal.returns-clause-well_formed
returns-clause-well_formed g c order =
    let p = (goal.at.returns-clause-well_formed g c).After-check_still_open in
    subst (λ b. HoldsWellFormed b (old g p).now) c.standard.ensures
    (formed g p (earlier g p order.0))

pub returns-clause-books : goal.returns-clause-books
returns-clause-books g c order =
    let p = (goal.at.returns-clause-books g c).After-check_still_open in
    adopted_books (old g p) (new g p) (left g p) c.assert_no_pending_writes.ensures order

pub returns-clause-premise : goal.returns-clause-premise
returns-clause-premise g c order =
    let p = (goal.at.returns-clause-premise g c).After-check_still_open in
    adopted_before (old g p) (new g p) (left g p) order

pub returns-clause-changes_nothing : goal.returns-clause-changes_nothing
returns-clause-changes_nothing g c =
    left g (goal.at.returns-clause-changes_nothing g c).After-check_still_open

pub invariant_of-result : goal.invariant_of-result
invariant_of-result g c =
    let p = (goal.at.invariant_of-result g c).After-check_still_open in
    let settled = c.assert_no_pending_writes.ensures in
    let tables = λ (clean : HasCleanDisk (new g p)). formed g p (earlier g p clean) in
    let limits = c.standard.ensures in (
      record {
        settled = (left g p).mode c.requires;
        stays_sound = opened_sound _ (old g p) (new g p) (left g p) settled tables;
        stays_well_formed = λ order. subst (λ b. IsWellFormed b (stored_books (new g p))) limits
            (opened_formed _ (old g p) (new g p) (left g p) settled tables order);
        leaves_stores = λ clean trees may.
            let it = opened_leaves _ (old g p) (new g p) (λ (trees : Trees) up may.
            g.met.S.Store.settled c.args.connection.store trees up may) (left g p) settled
            tables (λ honest. c.in-Ok.ensures.was_open (earlier g p honest)) clean trees may in
            record {
              books = it.0;
              holds = it.1;
              well_formed = subst (λ b. IsWellFormed b it.0) limits it.2;
            };
        range = search rules;
      },
      opened_counts (old g p) (new g p) c.counts_of.result (left g p) settled (λ clean.
          c.counts_of.ensures (stored_books (old g p))
          (subst (AllByRecursion (IsCountOf (stored_books (old g p))))
          (sym c.as_slice.ensures.value)
          (c.in-Ok.ensures.answers (earlier g p clean)).1.each_count)),
    )
