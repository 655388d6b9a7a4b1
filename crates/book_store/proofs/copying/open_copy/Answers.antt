use Rattle.sqlite.specs.Held.{state}
use Rattle.sqlite.proofs.StateLemmas.{survives_then}
use Rattle.book_store.proofs.CopyLemmas.{opened_shows}
use Rattle.book_store.proofs.copying.open_copy.Goals as goal

pub returns-in-Ok-true-clause-shows : goal.returns-in-Ok-true-clause-shows
returns-in-Ok-true-clause-shows g c = λ order.
    opened_shows (state g.T.Store c.args.conn) (state g.T.Store c.in_ok-copy.copy.conn)
    (state g.T.Store c.holds.new.self.conn) c.assert_no_pending_writes.ensures
    c.in_ok-copy.ensures.changes_nothing (c.holds.ensures.premise order)
    (c.holds.ensures.shows order)

pub returns-in-Ok-true-clause-survives : goal.returns-in-Ok-true-clause-survives
returns-in-Ok-true-clause-survives g c = λ order.
    survives_then (state g.T.Store c.args.conn) (state g.T.Store c.in_ok-copy.copy.conn)
    (state g.T.Store c.holds.new.self.conn) _ _ (λ _. ⊥) (λ _ db none. none) (λ _ db none. none)
    c.in_ok-copy.ensures.changes_nothing.survives (c.holds.ensures.survives order)
