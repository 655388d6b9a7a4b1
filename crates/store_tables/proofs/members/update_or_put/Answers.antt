use Rattle.std.proofs.Common.{rules, ◌≡◌, Ok, Err, option_copied, refl}
use Rattle.std.proofs.Math.Facts.{to_z-of_z}
use Rattle.store_tables.proofs.MemberSteps.{failed_update, puts_after_miss, updated}
use Rattle.store_tables.proofs.members.update_or_put.Goals as goal

pub returns-in_err-updated : goal.returns-in_err-updated
returns-in_err-updated g c =
    let said : c.from_residual.result ≡ Err c.in_err-updated.field-0.0 = search rules in
    rw said (failed_update g.S.Store c.args.book c.args.uid.now c.args.changed
    (option_copied c.args.card) c.args.tx.now c.update_member.new.tx c.in_err-updated.field-0.0
    (rw (to_z-of_z c.ranges.book, to_z-of_z c.ranges.changed) at c.in_err-updated.ensures))

pub returns-in_err-put_new_member : goal.returns-in_err-put_new_member
returns-in_err-put_new_member g c =
    let said : c.from_residual-in_err-put_new_member.result
    ≡ Err c.in_err-put_new_member.field-0.0 = search rules in
    rw said (puts_after_miss g.S.Store c.args.book c.args.uid.now c.args.changed
    (option_copied c.args.card) c.args.tx.now c.update_member.new.tx c.put_new_member.new.tx
    c.in_ok-updated.updated (Err c.in_err-put_new_member.field-0.0) (Err
    c.in_err-put_new_member.field-0.0) c.if-updated-eq0.true refl
    (rw (to_z-of_z c.ranges.book, to_z-of_z c.ranges.changed) at c.in_ok-updated.ensures)
    (rw (to_z-of_z c.ranges.book, to_z-of_z c.ranges.changed) at c.in_err-put_new_member.ensures))

pub returns-in_ok-put_new_member : goal.returns-in_ok-put_new_member
returns-in_ok-put_new_member g c =
    puts_after_miss g.S.Store c.args.book c.args.uid.now c.args.changed
    (option_copied c.args.card) c.args.tx.now c.update_member.new.tx c.put_new_member.new.tx
    c.in_ok-updated.updated (Ok c.in_ok-put_new_member.field-0) (Ok tt) c.if-updated-eq0.true tt
    (rw (to_z-of_z c.ranges.book, to_z-of_z c.ranges.changed) at c.in_ok-updated.ensures)
    (rw (to_z-of_z c.ranges.book, to_z-of_z c.ranges.changed) at c.in_ok-put_new_member.ensures)

pub returns-else-updated-eq0 : goal.returns-else-updated-eq0
returns-else-updated-eq0 g c =
    updated g.S.Store c.args.book c.args.uid.now c.args.changed (option_copied c.args.card)
    c.args.tx.now c.update_member.new.tx c.in_ok-updated.updated tt c.if-updated-eq0.false
    (rw (to_z-of_z c.ranges.book, to_z-of_z c.ranges.changed) at c.in_ok-updated.ensures)
