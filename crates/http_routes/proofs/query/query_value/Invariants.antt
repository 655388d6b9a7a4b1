use Rattle.std.proofs.Common.{◌≡◌, length}
use Rattle.http_routes.specs.Queries.{query_value}
use Rattle.http_routes.proofs.query.query_value.Given as goal

-- the pairs that are left give the value
abbrev pub invariant-loop-pair : goal.invariant-loop-pair
invariant-loop-pair l = query_value l.fn.name l.rest ≡ query_value l.fn.name l.fn.pairs

abbrev pub decreases-loop-pair : goal.decreases-loop-pair
decreases-loop-pair l = length l.rest
