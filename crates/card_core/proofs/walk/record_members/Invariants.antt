use Rattle.std.proofs.Common.{◌≤◌}
use Rattle.card_core.specs.internal.Walks.{groups_left}
use Rattle.card_core.proofs.MemberLemmas.{IsNotedSoFar}
use Rattle.card_core.proofs.walk.record_members.Given as goal

-- the members so far are recorded
abbrev pub invariant-loop-line : goal.invariant-loop-line
invariant-loop-line g l = record {
  noted : IsNotedSoFar (g.C.CardsByUid.cards l.cards) l.card l.fn.walk l.walk l.line-index;
  fewer : groups_left (g.C.CardsByUid.cards l.cards) l.walk ≤ groups_left
      (g.C.CardsByUid.cards l.cards) l.fn.walk;
}
