use Rattle.std.proofs.Common.{◌≡◌, ◌++◌, drop, map, take}
use Rattle.socket_endpoint.specs.Reports.{not_ready}
use Rattle.socket_endpoint.proofs.reports.clear_ready.Given as goal

-- the places that were cleared, and then the others
abbrev pub invariant-loop-place : goal.invariant-loop-place
invariant-loop-place l = l.ready ≡ map not_ready (take l.place l.fn.ready) ++ drop l.place
    l.fn.ready
