use Rattle.std.proofs.Common.{◌≡◌, map, take, false}
use Rattle.std.specs.List.{list_any}
use Rattle.httparse.specs.Spans.{header_bytes}
use Rattle.http_requests.specs.Guards.{is_foreign_site}
use Rattle.http_requests.proofs.guarding.has_foreign_site.Given as goal

abbrev pub invariant-loop-i : goal.invariant-loop-i
invariant-loop-i l = list_any (is_foreign_site l.host)
    (map (header_bytes l.text) (take l.i l.fields)) ≡ false
