use Rattle.std.proofs.Common.{◌≡◌, length}
use Rattle.http_requests.specs.Fields.{has_close}
use Rattle.http_requests.proofs.fields.has_close.Given as goal

abbrev pub invariant-loop-at : goal.invariant-loop-at
invariant-loop-at l = has_close l.value ≡ has_close l.rest

abbrev pub decreases-loop-at : goal.decreases-loop-at
decreases-loop-at l = length l.rest
