use Rattle.sqlite.specs.Held.{state}
use Rattle.store_writes.proofs.CallLemmas.{read_before}
use Rattle.book_store.proofs.CopyLemmas.{confirmed_if, confirmed_shows}
use Rattle.book_store.proofs.CountLemmas.{still_counts}
use Rattle.book_store.proofs.StoreLemmas.{still_store}
use Rattle.book_store.proofs.sql_store.SqlStore.holds.Goals as goal

pub invariant_of-self : goal.invariant_of-self
invariant_of-self g c =
    let old = state g.T.Store c.self.inside.conn in
    let new = state g.T.Store c.holds_rows.new.conn in (
      still_store old new c.self.inside.limits c.self.invariant.0 c.holds_rows.ensures.reads_only,
      still_counts old new c.self.inside.limits c.self.inside.counts c.self.invariant.0
          c.holds_rows.ensures.reads_only c.self.invariant.1,
    )

pub returns-clause-holds : goal.returns-clause-holds
returns-clause-holds g c =
    confirmed_if (state g.T.Store c.self.inside.conn) (state g.T.Store c.holds_rows.new.conn)
    c.self.inside.limits c.args.left.now c.args.rows.now c.holds_rows.result c.self.invariant.0
    c.holds_rows.ensures.reads_only c.holds_rows.ensures.same

pub returns-clause-premise : goal.returns-clause-premise
returns-clause-premise g c = rw (← c.self.view_is) (read_before (state g.T.Store c.self.inside.conn)
    (state g.T.Store c.holds_rows.new.conn) c.holds_rows.ensures.reads_only)

pub returns-clause-shows : goal.returns-clause-shows
returns-clause-shows g c = rw (← c.self.view_is)
    (confirmed_shows (state g.T.Store c.self.inside.conn) (state g.T.Store c.holds_rows.new.conn)
    c.self.inside.limits c.self.invariant.0 c.holds_rows.ensures.reads_only)

pub returns-clause-survives : goal.returns-clause-survives
returns-clause-survives g c = rw (← c.self.view_is)
    (λ order. c.holds_rows.ensures.reads_only.survives)
