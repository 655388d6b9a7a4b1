use Rattle.std.proofs.Common.{Ok, Err, option_copied}
use Rattle.std.proofs.Math.Facts.{to_z-of_z}
use Rattle.store_tables.proofs.MemberSteps.{inserted, puts_after_refusal}
use Rattle.store_tables.proofs.members.put_new_member.Goals as goal

pub returns-in-Ok : goal.returns-in-Ok
returns-in-Ok g c =
    inserted g.S.Store c.args.book c.args.uid.now c.args.changed (option_copied c.args.card)
    c.args.tx.now c.insert_member.new.tx (Ok c.in-Ok.rows) tt
    (rw (to_z-of_z c.ranges.book, to_z-of_z c.ranges.changed) at c.in-Ok.ensures.inserts)

pub returns-then-is_violation : goal.returns-then-is_violation
returns-then-is_violation g c =
    puts_after_refusal g.S.Store c.args.book c.args.uid.now c.args.changed
    (option_copied c.args.card) c.args.tx.now c.insert_member.new.tx c.put_member.new.tx
    c.put_member.result c.insert_member.ensures.inserts.same_reference
    c.insert_member.ensures.inserts.no_commit
    (λ clean inside. c.in-Err.ensures.refused clean inside
    (c.is_violation.ensures.yes c.if-is_violation.true))
    (rw (to_z-of_z c.ranges.book, to_z-of_z c.ranges.changed) at c.put_member.ensures)

pub returns-else-is_violation : goal.returns-else-is_violation
returns-else-is_violation g c =
    inserted g.S.Store c.args.book c.args.uid.now c.args.changed (option_copied c.args.card)
    c.args.tx.now c.insert_member.new.tx (Err c.in-Err.error)
    (c.is_violation.ensures.no c.if-is_violation.false)
    (rw (to_z-of_z c.ranges.book, to_z-of_z c.ranges.changed) at c.in-Err.ensures.inserts)
