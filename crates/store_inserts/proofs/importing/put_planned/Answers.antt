use Rattle.std.proofs.Common.{Ok, Err, option_copied, refl}
use Rattle.std.proofs.Math.Facts.{to_z-of_z}
use Rattle.store_tables.proofs.MemberSteps.{in_steps}
use Rattle.store_inserts.proofs.importing.put_planned.Goals as goal

pub returns-then-not-likely_new : goal.returns-then-not-likely_new
returns-then-not-likely_new g c =
    rw (to_z-of_z c.ranges.book, to_z-of_z c.ranges.changed) at c.update_or_put.ensures

pub returns-in-Ok : goal.returns-in-Ok
returns-in-Ok g c =
    in_steps g.S.Store c.args.book c.args.uid.now c.args.changed (option_copied c.args.card)
    c.args.tx.now c.put_with_hint.new.tx (Ok c.in-Ok.field-0) (Ok tt) tt
    (rw (to_z-of_z c.ranges.book, to_z-of_z c.ranges.changed) at c.in-Ok.ensures)

pub returns-in-Err : goal.returns-in-Err
returns-in-Err g c =
    in_steps g.S.Store c.args.book c.args.uid.now c.args.changed (option_copied c.args.card)
    c.args.tx.now c.put_with_hint.new.tx (Err c.in-Err.error) (Err c.in-Err.error) refl
    (rw (to_z-of_z c.ranges.book, to_z-of_z c.ranges.changed) at c.in-Err.ensures)
