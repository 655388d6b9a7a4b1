use Rattle.std.proofs.Common.{ℕ, Result, refl, subst}
use Rattle.book_model.specs.Books.{Books}
use Rattle.book_model.specs.Bounds.{Bounds}
use Rattle.book_model.specs.Creating.{create_step}
use Rattle.book_laws.proofs.WellFormedSteps.{creating_keeps_form}
use Rattle.store_check.specs.OpenResults.{max_limits}
use Rattle.book_model.specs.WellFormed.{IsWellFormed}
use Rattle.book_laws.specs.WellFormedLaws.{AreWithin, LeavesWellFormed}
use Rattle.book_model.specs.declared.refusal.Refusal.{Refusal}
use Rattle.sqlite.specs.Held.{state}
use Rattle.store_lookups.specs.StoredBooks.{HoldCounts, KeepsCounts, stored_books}
use Rattle.book_store.specs.StoreViews.{ChangesStore, IsStore, StoreView}
use Rattle.book_store.proofs.CountLemmas.{created_counts}
use Rattle.book_store.proofs.AnswerLemmas.{still_stored, tested_changes_store}
use Rattle.book_store.proofs.StoreLemmas.{LeavesCommitted}
use Rattle.book_store.proofs.calls.SqlStoreBookStore.create_book.Given as given
use Rattle.book_store.proofs.calls.SqlStoreBookStore.create_book.Goals as goal
use Rattle.book_store.proofs.calls.SqlStoreBookStore.create_book.Goals.{After-outcome_if_open}

-- ---- the call and the test of its connection

module _ (g : given.Over) (c : After-outcome_if_open g) where
  abbrev old : StoreView g.row.S.Denot
  old = record { conn = c.self.inside.conn; limits = c.self.inside.limits }

  abbrev mid : StoreView g.row.S.Denot
  mid = record { conn = c.create_in_tables-outcome.new.conn; limits = c.self.inside.limits }

  abbrev new : StoreView g.row.S.Denot
  new = record { conn = c.outcome_if_open.new.conn; limits = c.self.inside.limits }

  abbrev step : Bounds → Books → Result (ℕ × Books) Refusal
  step = λ (limits : Bounds) (books : Books). create_step limits books c.args.name.now

  keeps : AreWithin c.self.inside.limits max_limits → (books : Books)
      → IsWellFormed max_limits books → LeavesWellFormed max_limits
      (step c.self.inside.limits books)
  keeps = (λ fits books well. creating_keeps_form c.self.inside.limits max_limits books
      c.args.name.now c.self.invariant.0.range fits well)

  alone : LeavesCommitted (state g.S.Store c.outcome_if_open.new.conn)
  alone trees up may = g.met.S.Store.settled c.outcome_if_open.new.conn.store trees up may

  counts : KeepsCounts (state g.S.Store c.self.inside.conn)
      (state g.S.Store c.create_in_tables-outcome.new.conn) c.self.inside.counts
      c.self.inside.counts
  counts = (λ order was held. created_counts c.self.inside.counts c.self.inside.limits
      c.args.name.now c.create_in_tables-outcome.result
      (stored_books (state g.S.Store c.self.inside.conn))
      (stored_books (state g.S.Store c.create_in_tables-outcome.new.conn))
      (c.create_in_tables-outcome.ensures.changes.matches_step order was) held)

  changes : ChangesStore g.S.Store old new c.outcome_if_open.result step
  changes =
      tested_changes_store g.S.Store old mid new c.self.inside.counts c.self.inside.counts
      c.create_in_tables-outcome.result c.outcome_if_open.result step c.self.invariant.0
      c.self.invariant.1 alone refl keeps c.create_in_tables-outcome.ensures.changes
      c.create_in_tables-outcome.ensures.crash counts
      c.outcome_if_open.ensures.reads_only c.outcome_if_open.ensures.stands
      c.outcome_if_open.ensures.done c.outcome_if_open.ensures.opened
      c.create_in_tables-outcome.ensures.store_fault

  stored : IsStore (state g.S.Store c.outcome_if_open.new.conn) c.self.inside.limits
      × HoldCounts (state g.S.Store c.outcome_if_open.new.conn) c.self.inside.counts
  stored =
      still_stored g.S.Store old mid new c.self.inside.counts c.self.inside.counts
      c.create_in_tables-outcome.result c.outcome_if_open.result step c.self.invariant.0
      c.self.invariant.1 alone refl keeps c.create_in_tables-outcome.ensures.changes
      c.create_in_tables-outcome.ensures.crash counts
      c.outcome_if_open.ensures.reads_only c.outcome_if_open.ensures.stands
      c.outcome_if_open.ensures.done c.outcome_if_open.ensures.opened

-- ---- the clauses

pub returns : goal.returns
returns g c =
    let p = (goal.at.returns g c).After-outcome_if_open in
    record {
      changes = subst (λ (v : StoreView _). ChangesStore g.S.Store v (new g p)
          c.outcome_if_open.result (step g p)) c.self.view_is (changes g p);
    }

pub invariant_of-self : goal.invariant_of-self
invariant_of-self g c = stored g (goal.at.invariant_of-self g c).After-outcome_if_open
