use Rattle.std.proofs.Common.{◌∙◌}
use Rattle.sqlite.specs.Held.{state}
use Rattle.sqlite.proofs.StateLemmas.{survives_then}
use Rattle.store_copy.proofs.writing.insert_members.Goals as goal

pub loop-row-preserved : goal.loop-row-preserved
loop-row-preserved g c =
    let old = state g.S.Store c.args.tx.now.conn.now in
    let mid = state g.S.Store c.loop-row.tx.conn.now in
    let new = state g.S.Store c.insert_member_row.new.tx.conn.now in
    let first = c.loop-row.invariant in
    record {
      same_reference = c.insert_member_row.ensures.same_reference ∙ first.same_reference;
      survives = survives_then old mid new _ _ (λ _. ⊥) (λ _ db none. none) (λ _ db none. none)
          first.survives c.insert_member_row.ensures.survives;
    }
