use Rattle.std.proofs.Common.{◌≡◌, map, take, false}
use Rattle.std.specs.List.{list_any}
use Rattle.httparse.specs.Spans.{header_bytes}
use Rattle.http_requests.specs.Fields.{asks_close}
use Rattle.http_requests.proofs.fields.asks_close.Given as goal

abbrev pub invariant-loop-i : goal.invariant-loop-i
invariant-loop-i l = list_any asks_close (map (header_bytes l.text) (take l.i l.fields)) ≡ false
