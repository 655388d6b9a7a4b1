use Rattle.std.proofs.Common.{◌≡◌, false, take}
use Rattle.std.specs.List.{list_any}
use Rattle.http_requests.specs.Guards.{names_host}
use Rattle.http_requests.proofs.hosts.names_any_host.Given as goal

abbrev pub invariant-loop-i : goal.invariant-loop-i
invariant-loop-i l = list_any (names_host l.value) (take l.i l.names) ≡ false
