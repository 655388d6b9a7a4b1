use Rattle.std.proofs.Math.Facts.{to_z-of_z}
use Rattle.std.proofs.lemmas.Result.{on_ok_weaker}
use Rattle.sqlite.specs.Held.{state}
use Rattle.store_schema.specs.FirstSchema.{first_number}
use Rattle.store_tables.proofs.ObeyLemmas.{executed_obeys}
use Rattle.store_tables.proofs.ReturningLemmas.{keeps_executed, executed_inside, written_by}
use Rattle.store_migration.proofs.RestateFailures.{restate_fails}
use Rattle.store_migration.proofs.RestateLemmas.{update_command, update_is, update_text}
use Rattle.store_migration.proofs.RestateLemmas.{updates_inside}
use Rattle.store_migration.proofs.writing.update_schema_number.Goals as goal

pub returns-clause-updates : goal.returns-clause-updates
returns-clause-updates g c id clean inside has one =
    on_ok_weaker c.execute.result (λ h. h.1)
    (updates_inside (state g.S.Store c.args.tx.now.conn.now)
    (state g.S.Store c.execute.new.self.conn.now) id first_number c.args.number c.execute.result
    has one
    (rw (c.params-to_sql.ensures, to_z-of_z c.ranges.number) at (c.execute.ensures.runs clean
    inside)))

pub returns-clause-writes : goal.returns-clause-writes
returns-clause-writes g c id clean inside has one =
    let old = state g.S.Store c.args.tx.now.conn.now in
    let new = state g.S.Store c.execute.new.self.conn.now in
    let ran = rw (c.params-to_sql.ensures, to_z-of_z c.ranges.number) at
    (c.execute.ensures.runs clean inside) in
    let all = updates_inside old new id first_number c.args.number c.execute.result has one ran in
    written_by 0 old new c.execute.result (on_ok_weaker c.execute.result (λ h. (h.0, h.2)) all)
    (executed_obeys update_text _ old new has update_command update_is.0 update_is.1 tt
    c.execute.result ran (on_ok_weaker c.execute.result (λ h. h.0) all))
    (executed_inside _ _ old new c.execute.result ran)

pub returns-clause-keeps_commit : goal.returns-clause-keeps_commit
returns-clause-keeps_commit g c clean inside =
    keeps_executed _ _ (state g.S.Store c.args.tx.now.conn.now)
    (state g.S.Store c.execute.new.self.conn.now) c.execute.result (c.execute.ensures.runs clean
    inside)

pub returns-clause-fails_from_outside : goal.returns-clause-fails_from_outside
returns-clause-fails_from_outside g c id fits one clean inside has obeys =
    restate_fails (state g.S.Store c.args.tx.now.conn.now)
    (state g.S.Store c.execute.new.self.conn.now) id first_number c.args.number c.execute.result has
    one fits obeys.obeys
    (rw (c.params-to_sql.ensures, to_z-of_z c.ranges.number) at (c.execute.ensures.runs clean
    inside))
