use Rattle.std.proofs.Common.{◌∙◌, arith}
use Rattle.http_hub.proofs.HoldingLemmas.{ended_sum}
use Rattle.http_hub.proofs.bounded.BoundedHub.end.Goals as goal

pub invariant_of-self : goal.invariant_of-self
invariant_of-self c =
    let sum = ended_sum c.self.inside.large_sum c.large_part-part.result c.args.place
    c.self.inside.hub c.end.new.self c.self.invariant.0 c.large_part-part.ensures.part
    c.end.ensures in
    let left = c.saturating_sub-self-inside.ensures in
    let few = c.self.invariant.1 in
    (left ∙ sum, omega (arith, left, few))
