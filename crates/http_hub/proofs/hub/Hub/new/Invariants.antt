use Rattle.std.proofs.Common.{◌≡◌, None, replicate}
use Rattle.http_hub.proofs.hub.Hub.new.Given as goal

abbrev pub invariant-loop-place : goal.invariant-loop-place
invariant-loop-place l = l.slots.items ≡ replicate l._place None
