use Rattle.sqlite.specs.Held.{state}
use Rattle.book_store.proofs.CopyLemmas.{both, copied_whole}
use Rattle.book_store.proofs.copying.make_copy.Goals as goal

pub returns-in-Ok-clause-crash : goal.returns-in-Ok-clause-crash
returns-in-Ok-clause-crash g c =
    let e = c.open_copy.ensures in
    both c.open_copy.result _ _ _ (λ copy shows survives order.
    copied_whole (state g.T.Store c.args.target) (state g.T.Store c.write_tables.new.conn)
    (state g.T.Store copy.conn) c.in-Ok.ensures.crash (survives order) (shows order)) e.shows
    e.survives
