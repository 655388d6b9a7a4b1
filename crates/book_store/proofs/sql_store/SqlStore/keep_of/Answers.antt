use Rattle.std.proofs.Common.{refl, subst}
use Rattle.sqlite.specs.Held.{state}
use Rattle.sqlite.specs.State.{HasCleanDisk}
use Rattle.book_model.specs.BookQueries.{keep_step}
use Rattle.book_model.specs.Books.{Books}
use Rattle.book_model.specs.Bounds.{Bounds}
use Rattle.sync_core.specs.StoreModels.{AnswersQuery, KeepsTerms}
use Rattle.sync_core.specs.StoreCrashes.{LeavesNoMore}
use Rattle.store_tables.specs.StatementEffects.{OnlyReads}
use Rattle.store_tables.proofs.SchemaCreationLemmas.{clean_before}
use Rattle.store_lookups.specs.CallResults.{IsExactly}
use Rattle.store_lookups.specs.ChangeFaults.{HaveFreeIds}
use Rattle.store_lookups.specs.StoreFaults.{HasOutsideCauseOfFault}
use Rattle.store_writes.proofs.CallLemmas.{read_before}
use Rattle.book_store.specs.StoreViews.{IsStore, StoreView, table_model}
use Rattle.book_store.proofs.AnswerLemmas.{both_read, tested_cause, tested_follows}
use Rattle.book_store.proofs.CountLemmas.{still_counts}
use Rattle.book_store.proofs.StoreLemmas.{LeavesCommitted, changes_outside, leaves_no_more}
use Rattle.book_store.proofs.StoreLemmas.{reads_store, still_store}
use Rattle.book_store.proofs.sql_store.SqlStore.keep_of.Given as given
use Rattle.book_store.proofs.sql_store.SqlStore.keep_of.Goals as goal
use Rattle.book_store.proofs.sql_store.SqlStore.keep_of.Goals.{After-answer_if_open}

-- ---- the call and the test of its connection

module _ (g : given.Over) (c : After-answer_if_open g) where
  abbrev old : StoreView g.row.S.Denot
  old = record { conn = c.self.inside.conn; limits = c.self.inside.limits }

  abbrev new : StoreView g.row.S.Denot
  new = record { conn = c.answer_if_open.new.conn; limits = c.self.inside.limits }

  left : OnlyReads (state g.S.Store c.self.inside.conn) (state g.S.Store c.answer_if_open.new.conn)
  left =
      both_read (state g.S.Store c.self.inside.conn)
      (state g.S.Store c.keep_of_book-answer.new.conn)
      (state g.S.Store c.answer_if_open.new.conn) c.keep_of_book-answer.ensures.reads_only
      c.answer_if_open.ensures.reads_only

  -- the store after the call, before the test
  stored : IsStore (state g.S.Store c.keep_of_book-answer.new.conn) c.self.inside.limits
  stored = still_store (state g.S.Store c.self.inside.conn)
      (state g.S.Store c.keep_of_book-answer.new.conn) c.self.inside.limits c.self.invariant.0
      c.keep_of_book-answer.ensures.reads_only

  alone : LeavesCommitted (state g.S.Store c.answer_if_open.new.conn)
  alone trees up may = g.met.S.Store.settled c.answer_if_open.new.conn.store trees up may

-- ---- the clauses

pub invariant_of-self : goal.invariant_of-self
invariant_of-self g c =
    let p = (goal.at.invariant_of-self g c).After-answer_if_open in
    let old = state g.S.Store c.self.inside.conn in
    let mid = state g.S.Store c.keep_of_book-answer.new.conn in
    let new = state g.S.Store c.answer_if_open.new.conn in (
      still_store mid new c.self.inside.limits (stored g p) c.answer_if_open.ensures.reads_only,
      still_counts mid new c.self.inside.limits c.self.inside.counts (stored g p)
          c.answer_if_open.ensures.reads_only
          (still_counts old mid c.self.inside.limits c.self.inside.counts c.self.invariant.0
          c.keep_of_book-answer.ensures.reads_only c.self.invariant.1),
    )

pub returns-clause-terms : goal.returns-clause-terms
returns-clause-terms g c =
    let p = (goal.at.returns-clause-terms g c).After-answer_if_open in
    subst (λ (v : StoreView _). KeepsTerms (table_model g.S.Store) v (new g p)) c.self.view_is
    (record {
      premise = read_before (state g.S.Store c.self.inside.conn)
          (state g.S.Store c.answer_if_open.new.conn) (left g p);
      limits = refl;
      range = c.self.invariant.0.range;
    })

pub returns-clause-answers : goal.returns-clause-answers
returns-clause-answers g c =
    let p = (goal.at.returns-clause-answers g c).After-answer_if_open in
    let query = λ (limits : Bounds) (books : Books). keep_step books c.args.book.now in
    let mid = state g.S.Store c.keep_of_book-answer.new.conn in
    let end = state g.S.Store c.answer_if_open.new.conn in
    subst (λ (v : StoreView _). AnswersQuery (table_model g.S.Store) IsExactly v (new g p)
    c.answer_if_open.result query) c.self.view_is
    (reads_store IsExactly c.answer_if_open.result (query c.self.inside.limits)
    (state g.S.Store c.self.inside.conn) end c.self.inside.limits c.self.invariant.0 (left g p)
    (λ rows clean holds sound. tested_follows IsExactly mid end c.keep_of_book-answer.result
    c.answer_if_open.result _ c.answer_if_open.ensures.stands
    (c.keep_of_book-answer.ensures.answers rows
    (clean_before _ mid end c.answer_if_open.ensures.reads_only.survives clean) holds sound)))

pub returns-clause-leaves_no_more : goal.returns-clause-leaves_no_more
returns-clause-leaves_no_more g c =
    let p = (goal.at.returns-clause-leaves_no_more g c).After-answer_if_open in
    let end = state g.S.Store c.answer_if_open.new.conn in
    subst (λ (v : StoreView _). LeavesNoMore (table_model g.S.Store) v (new g p)
    c.answer_if_open.result) c.self.view_is
    (leaves_no_more g.S.Store (old g p) (new g p) c.answer_if_open.result (alone g p)
    (still_store (state g.S.Store c.keep_of_book-answer.new.conn) end c.self.inside.limits
    (stored g p) c.answer_if_open.ensures.reads_only).stays_sound
    c.answer_if_open.ensures.opened (left g p))

pub returns-clause-reads_only : goal.returns-clause-reads_only
returns-clause-reads_only g c =
    let p = (goal.at.returns-clause-reads_only g c).After-answer_if_open in
    subst (λ (v : StoreView _). OnlyReads (state g.S.Store v.conn)
    (state g.S.Store c.answer_if_open.new.conn)) c.self.view_is (left g p)

pub returns-clause-store_fault : goal.returns-clause-store_fault
returns-clause-store_fault g c =
    let p = (goal.at.returns-clause-store_fault g c).After-answer_if_open in
    let before = state g.S.Store c.self.inside.conn in
    let mid = state g.S.Store c.keep_of_book-answer.new.conn in
    let end = state g.S.Store c.answer_if_open.new.conn in
    let read = c.keep_of_book-answer.ensures.reads_only in
    subst (λ (v : StoreView _). HasCleanDisk end → HaveFreeIds (state g.S.Store v.conn).now.trees
    → HasOutsideCauseOfFault (state g.S.Store v.conn) end c.answer_if_open.result)
    c.self.view_is
    (λ clean ids. tested_cause before mid end c.self.inside.limits c.keep_of_book-answer.result
    c.answer_if_open.result _ (stored g p) read.survives c.answer_if_open.ensures.reads_only
    c.answer_if_open.ensures.stands
    (λ early. changes_outside before mid c.self.inside.limits c.keep_of_book-answer.result _
    c.self.invariant.0 read.survives c.keep_of_book-answer.ensures.store_fault early ids) clean)
