use Rattle.std.proofs.Common.{IsSome, sym, subst, ◌∙◌, true≢false}
use Rattle.sqlite.specs.Held.{state}
use Rattle.store_migration.proofs.PlanLemmas.{has_id, meta_row}
use Rattle.store_migration.proofs.planning.check_meta_id.Goals as goal

pub returns-in-Some-clause-has_id : goal.returns-in-Some-clause-has_id
returns-in-Some-clause-has_id g c clean has first =
    let it = c.in-Some.ensures.found in
    has_id (state g.S.Store c.args.conn.now).now c.in-Ok.rows.items it.1 c.in-Some._id first
    (c.in-Ok.ensures.lists clean has) (sym c.as_slice.ensures.value ∙ it.2) it.3 it.0

pub returns-in-Ok-clause-from_outside : goal.returns-in-Ok-clause-from_outside
returns-in-Ok-clause-from_outside g c clean has first ids =
    let it = meta_row (state g.S.Store c.args.conn.now).now c.in-Ok.rows.items first ids
    (c.in-Ok.ensures.lists clean has) in
    absurd (true≢false (sym (subst (λ o. IsSome o) c.in-None.is
    (c.only_id.ensures.missed it.0 (c.as_slice.ensures.value ∙ it.1) it.2))))
