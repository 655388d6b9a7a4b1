use Rattle.std.proofs.Common.{ℕ, List}
use Rattle.card_core.specs.internal.Walks.{IsWalk, groups_left}
use Rattle.card_core.proofs.walk.visit_waiting.Given as goal

-- the walk continues the given one
abbrev pub invariant-loop-card : goal.invariant-loop-card
invariant-loop-card g l = (group : List ℕ) → IsWalk (g.C.CardsByUid.cards l.cards) group l.fn.walk
    → IsWalk (g.C.CardsByUid.cards l.cards) group l.walk

-- each iteration removes a group, and adds only groups that weren't found before
abbrev pub decreases-loop-card : goal.decreases-loop-card
decreases-loop-card g l = groups_left (g.C.CardsByUid.cards l.cards) l.walk
