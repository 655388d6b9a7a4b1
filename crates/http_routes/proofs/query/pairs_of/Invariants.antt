use Rattle.std.proofs.Common.{◌≡◌, map, take}
use Rattle.http_routes.proofs.QueryLemmas.{texts_of}
use Rattle.http_routes.proofs.query.pairs_of.Given as goal

-- the pairs so far are the texts of those that were read
abbrev pub invariant-loop-pair : goal.invariant-loop-pair
invariant-loop-pair l = l.pairs.items ≡ map texts_of (take l.pair-index l.pair-items)
