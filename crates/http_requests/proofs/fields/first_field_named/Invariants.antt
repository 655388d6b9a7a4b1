use Rattle.std.proofs.Common.{◌≡◌, map, take, None}
use Rattle.std.specs.List.{find}
use Rattle.httparse.specs.Spans.{header_bytes}
use Rattle.http_requests.specs.Fields.{field_is_named}
use Rattle.http_requests.proofs.fields.first_field_named.Given as goal

abbrev pub invariant-loop-i : goal.invariant-loop-i
invariant-loop-i l = find (field_is_named l.name) (map (header_bytes l.text) (take l.i l.fields))
    ≡ None
