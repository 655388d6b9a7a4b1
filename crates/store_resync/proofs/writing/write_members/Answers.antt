use Rattle.std.proofs.Common.{rules, ◌≡◌, List, ℕ, ℤ, Some, IfSome, OnOk, pos, to_z, of_z, w64}
use Rattle.std.proofs.Common.{subst, ◌∙◌}
use Rattle.std.proofs.Math.Facts.{to_z-of_z}
use Rattle.sqlite.specs.Held.{state}
use Rattle.store_tables.specs.Members.{HoldMembers, PutsRow, without_removed}
use Rattle.store_resync.specs.internal.Plans.{HasLegalRow}
use Rattle.store_resync.proofs.StageLemmas.{forgotten_in_tx, renewed_in_tx}
use Rattle.store_resync.proofs.writing.write_members.Goals as goal

pub returns-in-Some-clause-members : goal.returns-in-Some-clause-members
returns-in-Some-clause-members g c id_is last_is legal rows name clean inside line =
    let plan = c.args.plan.now in
    let new = state g.S.Store c.update_or_put.new.tx.conn.now in
    let card = c.in-Some.card in
    let id : to_z w64 (of_z w64 c.args.id) ≡ pos plan.header.id = to_z-of_z c.ranges.id ∙ id_is in
    let last : to_z w64 (of_z w64 c.args.last) ≡ pos plan.last = to_z-of_z c.ranges.last
    ∙ last_is in
    let uid : c.as_str.result.now ≡ card.uid = search rules in
    let text : c.as_str-in-Some.result.now ≡ card.text = search rules in
    let puts = λ (b : ℤ) (u : List ℕ) (n : ℤ) (t : List ℕ). OnOk c.update_or_put.result
    (PutsRow new.now.trees b u n (Some t) rows.members) in
    let put = subst (λ b. puts b card.uid (pos plan.last) card.text) id
    (subst (λ u. puts (to_z w64 (of_z w64 c.args.id)) u (pos plan.last) card.text) uid
    (subst (λ n. puts (to_z w64 (of_z w64 c.args.id)) c.as_str.result.now n card.text) last
    (subst (λ t. puts (to_z w64 (of_z w64 c.args.id)) c.as_str.result.now
    (to_z w64 (of_z w64 c.args.last)) t) text
    ((c.update_or_put.ensures.changes rows.members clean inside line.holds.schema line.sound.members
    line.holds.members).puts)))) in
    renewed_in_tx (state g.S.Store c.args.tx.now.conn.now) new rows name plan c.args.stage card
    c.update_or_put.result c.in-Pairs.is c.in-Some.is
    (subst (λ renewed. IfSome renewed HasLegalRow) c.in-Some.is legal) line put
    (c.update_or_put.ensures.writes rows.members clean inside line.holds.schema line.sound.members
    line.holds.members)

pub returns-in-Ok-clause-members : goal.returns-in-Ok-clause-members
returns-in-Ok-clause-members g c id_is last_is legal rows name clean inside line =
    let plan = c.args.plan.now in
    let new = state g.S.Store c.forget_members.new.tx.conn.now in
    let id : to_z w64 (of_z w64 c.args.id) ≡ pos plan.header.id = to_z-of_z c.ranges.id ∙ id_is in
    let last : to_z w64 (of_z w64 c.args.last) ≡ pos plan.last = to_z-of_z c.ranges.last
    ∙ last_is in
    let left = subst (λ z. HoldMembers (new.now.trees 4) (without_removed z (pos plan.last)
    rows.members)) id
    (subst (λ z. HoldMembers (new.now.trees 4) (without_removed (to_z w64 (of_z w64 c.args.id)) z
    rows.members)) last
    ((c.in-Ok.ensures.changes rows.members clean inside line.holds.schema line.sound.members
    line.holds.members).forgets)) in
    forgotten_in_tx (state g.S.Store c.args.tx.now.conn.now) new rows name plan c.args.stage
    c.in-Forgetting.is line left
    (c.in-Ok.ensures.writes rows.members clean inside line.holds.schema line.sound.members
    line.holds.members)
