use Rattle.std.proofs.Common.{◌≡◌, ◌≤◌, ℕ, Result, Ok, Err, refl, subst, sym}
use Rattle.std.specs.FinMap as finite
use Rattle.book_model.specs.declared.refusal.Refusal.{Refusal}
use Rattle.book_model.specs.Books.{Books}
use Rattle.book_model.specs.WellFormed.{IsWellFormed}
use Rattle.book_laws.specs.WellFormedLaws.{AreWithin, LeavesWellFormed}
use Rattle.book_model.specs.declared.denied.Denied.{Denied}
use Rattle.book_model.specs.Bounds.{Bounds, IsInRange}
use Rattle.book_resync.specs.Resyncing.{accept_books, books_after_resync, resync_step}
use Rattle.book_resync.proofs.AllBooksLemmas.{resyncs_keep_well_formed}
use Rattle.store_check.specs.OpenResults.{max_limits}
use Rattle.book_store.specs.StoreResyncs.{ResyncsStore}
use Rattle.book_store.specs.StoreViews.{IsStore, StoreView}
use Rattle.sqlite.specs.Held.{state}
use Rattle.sqlite_trees.specs.declared.store.Store.{Ghosts}
use Rattle.store_writes.specs.TableChanges.{AppliesStep, CommitsOnce}
use Rattle.store_lookups.specs.StoredBooks.{HoldCounts}
use Rattle.book_store.specs.Answering.{IsOpenUnlessFault}
use Rattle.book_store.proofs.AnswerLemmas.{open_unless_fault, still_stored, tested_changes}
use Rattle.book_store.proofs.AnswerLemmas.{tested_commits}
use Rattle.book_store.proofs.StoreLemmas.{LeavesCommitted, leaves_step, max_in_range}
use Rattle.book_store.proofs.sql_store.SqlStore.resync.Given as given
use Rattle.book_store.proofs.sql_store.SqlStore.resync.Goals as goal
use Rattle.book_store.proofs.sql_store.SqlStore.resync.Goals.{After-outcome_if_open}

resyncs_store : {S : Type 0} (g : Ghosts S) (old new : StoreView S) (pairs : ℕ) (r :
    Result ℕ Denied) → IsStore (state g old.conn) old.limits → LeavesCommitted (state g new.conn)
    → new.limits ≡ old.limits
    → AppliesStep (state g old.conn) (state g new.conn) r (λ books. resync_step old.limits books
    pairs) → CommitsOnce (state g old.conn) (state g new.conn) (λ books. resync_step old.limits
    books pairs) → IsOpenUnlessFault (state g new.conn) r → ResyncsStore g old new pairs r
resyncs_store g old new pairs r store alone same changed commits opened = record {
  keeps_terms = record {
    premise = changed.was_open_on_honest_disk;
    limits = same;
    range = subst IsInRange (sym same) store.range;
  };
  matches_step = λ order. changed.matches_step order
      (store.stays_sound (changed.was_open_on_honest_disk order));
  leaves_step = leaves_step g old new r alone (λ order. changed.stays_sound order
      (store.stays_sound (changed.was_open_on_honest_disk order))) opened
      (λ limits books. resync_step limits books pairs) (commits store.stays_sound);
  crash = commits store.stays_sound;
}

-- a resync that isn't refused keeps books well formed
resync_leaves : (limits : Bounds) (pairs : ℕ) → 1 ≤ pairs → IsInRange limits
    → AreWithin limits max_limits → (books : Books) → IsWellFormed max_limits books
    → LeavesWellFormed max_limits (resync_step limits books pairs)
resync_leaves limits pairs some range fits books well =
    by (accept_books limits pairs (finite.entries books)) refl
  where
    by : (r : Result (Unit {0}) Refusal) → accept_books limits pairs (finite.entries books) ≡ r
        → LeavesWellFormed max_limits (resync_step limits books pairs)
    by (Ok done) e = rw e (resyncs_keep_well_formed limits max_limits books
        (books_after_resync limits books pairs) pairs range max_in_range fits well
        (record { some = some; accepted = rw e refl }))
    by (Err refusal) e = rw e tt

-- ---- the call and the test of its connection

module _ (g : given.Over) (c : After-outcome_if_open g) where
  abbrev old : StoreView g.row.S.Denot
  old = record { conn = c.self.inside.conn; limits = c.self.inside.limits }

  abbrev mid : StoreView g.row.S.Denot
  mid = record { conn = c.resync_in_tables-outcome.new.conn; limits = c.self.inside.limits }

  abbrev new : StoreView g.row.S.Denot
  new = record { conn = c.outcome_if_open.new.conn; limits = c.self.inside.limits }

  abbrev step : Bounds → Books → Result (ℕ × Books) Refusal
  step limits books = resync_step limits books c.args.pairs

  keeps : AreWithin c.self.inside.limits max_limits → (books : Books)
      → IsWellFormed max_limits books → LeavesWellFormed max_limits
      (step c.self.inside.limits books)
  keeps = resync_leaves c.self.inside.limits c.args.pairs c.requires.some c.self.invariant.0.range

  alone : LeavesCommitted (state g.S.Store c.outcome_if_open.new.conn)
  alone trees up may = g.met.S.Store.settled c.outcome_if_open.new.conn.store trees up may

  changes : ResyncsStore g.S.Store old new c.args.pairs c.outcome_if_open.result
  changes =
      let after = c.resync_in_tables-outcome.new.counts in
      let call = c.resync_in_tables-outcome.ensures in
      let test = c.outcome_if_open.ensures in
      resyncs_store g.S.Store old new c.args.pairs c.outcome_if_open.result c.self.invariant.0 alone
      refl
      (tested_changes g.S.Store old mid new c.self.inside.counts after
      c.resync_in_tables-outcome.result c.outcome_if_open.result step c.self.invariant.0
      c.self.invariant.1 alone refl keeps call.changes call.crash call.counts test.reads_only
      test.stands test.done test.opened)
      (tested_commits g.S.Store old mid new c.self.inside.counts after
      c.resync_in_tables-outcome.result c.outcome_if_open.result step c.self.invariant.0
      c.self.invariant.1 alone refl keeps call.changes call.crash call.counts test.reads_only
      test.stands test.done test.opened)
      (open_unless_fault g.S.Store old mid new c.self.inside.counts after
      c.resync_in_tables-outcome.result c.outcome_if_open.result step c.self.invariant.0
      c.self.invariant.1 alone refl keeps call.changes call.crash call.counts test.reads_only
      test.stands test.done test.opened)

  stored : IsStore (state g.S.Store c.outcome_if_open.new.conn) c.self.inside.limits
      × HoldCounts (state g.S.Store c.outcome_if_open.new.conn)
      c.resync_in_tables-outcome.new.counts
  stored =
      still_stored g.S.Store old mid new c.self.inside.counts c.resync_in_tables-outcome.new.counts
      c.resync_in_tables-outcome.result c.outcome_if_open.result step c.self.invariant.0
      c.self.invariant.1 alone refl keeps
      c.resync_in_tables-outcome.ensures.changes c.resync_in_tables-outcome.ensures.crash
      c.resync_in_tables-outcome.ensures.counts
      c.outcome_if_open.ensures.reads_only c.outcome_if_open.ensures.stands
      c.outcome_if_open.ensures.done c.outcome_if_open.ensures.opened

-- ---- the clauses

pub returns : goal.returns
returns g c =
    let p = (goal.at.returns g c).After-outcome_if_open in
    record {
      changes = subst (λ (v : StoreView _). ResyncsStore g.S.Store v (new g p) c.args.pairs
          c.outcome_if_open.result) c.self.view_is (changes g p);
    }

pub invariant_of-self : goal.invariant_of-self
invariant_of-self g c = stored g (goal.at.invariant_of-self g c).After-outcome_if_open
