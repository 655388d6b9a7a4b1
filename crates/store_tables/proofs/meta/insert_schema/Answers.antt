use Rattle.std.proofs.Math.Facts.{to_z-of_z}
use Rattle.std.proofs.lemmas.Result.{on_ok_weaker}
use Rattle.sqlite.specs.Held.{state}
use Rattle.store_tables.proofs.ReturningLemmas.{keeps_executed, stays_executed, undone_executed}
use Rattle.store_tables.proofs.ReturningLemmas.{executed_inside, written_by}
use Rattle.store_tables.proofs.MetaFailures.{schema_fails}
use Rattle.store_tables.proofs.MetaLemmas.{adds_schema_inside}
use Rattle.store_tables.proofs.ObeyLemmas.{executed_obeys}
use Rattle.store_tables.proofs.Queries.{add_schema_command, add_schema_text}
use Rattle.store_tables.proofs.Texts.{add_schema_is}
use Rattle.store_tables.proofs.meta.insert_schema.Goals as goal

pub returns-clause-adds : goal.returns-clause-adds
returns-clause-adds g c clean inside has =
    on_ok_weaker c.execute.result (λ h. h.1)
    (adds_schema_inside (state g.S.Store c.args.tx.now.conn.now)
    (state g.S.Store c.execute.new.self.conn.now) c.args.number c.execute.result has
    (rw (c.params-to_sql.ensures, to_z-of_z c.ranges.number) at (c.execute.ensures.runs clean
    inside)))

pub returns-clause-writes : goal.returns-clause-writes
returns-clause-writes g c clean inside has =
    let old = state g.S.Store c.args.tx.now.conn.now in
    let new = state g.S.Store c.execute.new.self.conn.now in
    let ran = rw (c.params-to_sql.ensures, to_z-of_z c.ranges.number) at
    (c.execute.ensures.runs clean inside) in
    let all = adds_schema_inside old new c.args.number c.execute.result has ran in
    written_by 0 old new c.execute.result (on_ok_weaker c.execute.result (λ h. (h.0, h.2)) all)
    (executed_obeys add_schema_text _ old new has add_schema_command add_schema_is.0 add_schema_is.1
    tt c.execute.result ran (on_ok_weaker c.execute.result (λ h. h.0) all))
    (executed_inside _ _ old new c.execute.result ran)

pub returns-clause-no_commit : goal.returns-clause-no_commit
returns-clause-no_commit g c = stays_executed _ _ (state g.S.Store c.args.tx.now.conn.now)
    (state g.S.Store c.execute.new.self.conn.now) c.execute.result c.execute.ensures.runs
    c.execute.ensures.survives

pub returns-clause-rolled_back : goal.returns-clause-rolled_back
returns-clause-rolled_back g c clean inside =
    undone_executed _ _ (state g.S.Store c.args.tx.now.conn.now)
    (state g.S.Store c.execute.new.self.conn.now) c.execute.result (c.execute.ensures.runs clean
    inside)

pub returns-clause-keeps_commit : goal.returns-clause-keeps_commit
returns-clause-keeps_commit g c clean inside =
    keeps_executed _ _ (state g.S.Store c.args.tx.now.conn.now)
    (state g.S.Store c.execute.new.self.conn.now) c.execute.result (c.execute.ensures.runs clean
    inside)

pub returns-clause-fails_from_outside : goal.returns-clause-fails_from_outside
returns-clause-fails_from_outside g c none clean inside has obeys =
    schema_fails (state g.S.Store c.args.tx.now.conn.now) (state g.S.Store c.execute.new.self.conn.now)
    c.args.number c.execute.result has none obeys.obeys
    (rw (c.params-to_sql.ensures, to_z-of_z c.ranges.number) at (c.execute.ensures.runs clean
    inside))
