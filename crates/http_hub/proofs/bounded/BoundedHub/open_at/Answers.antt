use Rattle.http_hub.proofs.HoldingLemmas.{opened_sum}
use Rattle.http_hub.proofs.bounded.BoundedHub.open_at.Goals as goal

pub invariant_of-self : goal.invariant_of-self
invariant_of-self c = (
  opened_sum c.self.inside.large_sum c.args.place c.args.now c.self.inside.hub c.open_at.new.self
      c.self.invariant.0 c.open_at.ensures,
  c.self.invariant.1,
)
