use Rattle.std.proofs.Common.{◌≡◌, ◌≤◌, map, take}
use Rattle.httparse.specs.Spans.{header_bytes}
use Rattle.http_requests.specs.Fields.{count_fields_named}
use Rattle.http_requests.proofs.fields.count_fields_named.Given as goal

abbrev pub invariant-loop-i : goal.invariant-loop-i
invariant-loop-i l = record {
  few : l.count ≤ l.i;
  is : l.count ≡ count_fields_named l.name (map (header_bytes l.text) (take l.i l.fields));
}
