use Rattle.std.proofs.Common.{◌≤◌}
use Rattle.http_hub.specs.PlaceCounts.{AreOpenBelow}
use Rattle.http_hub.proofs.places.last_end.Given as goal

abbrev pub invariant-loop-place : goal.invariant-loop-place
invariant-loop-place l = AreOpenBelow l.slots l.last × (l.last ≤ l.fn.end)
