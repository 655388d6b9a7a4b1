use Rattle.std.proofs.Common.{◌≡◌, map, take, false}
use Rattle.std.specs.List.{list_any}
use Rattle.httparse.specs.Spans.{header_bytes}
use Rattle.http_requests.specs.Guards.{is_precondition}
use Rattle.http_requests.proofs.guarding.has_precondition.Given as goal

abbrev pub invariant-loop-i : goal.invariant-loop-i
invariant-loop-i l = list_any is_precondition (map (header_bytes l.text) (take l.i l.fields))
    ≡ false
