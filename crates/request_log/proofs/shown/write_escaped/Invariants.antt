use Rattle.std.proofs.Common.{◌≡◌, ◌++◌, take}
use Rattle.request_log.specs.LogLines.{escaped}
use Rattle.request_log.proofs.shown.write_escaped.Given as goal

-- the octets so far are written
abbrev pub invariant-loop-octet : goal.invariant-loop-octet
invariant-loop-octet l = l.out.items ≡ l.fn.out.items ++ escaped (take l.octet-index l.octets)
