use Rattle.std.proofs.Common.{get_or, arith}
use Rattle.std.proofs.lemmas.List.{get_or_default}
use Rattle.std.proofs.lemmas.List.Edits.{map_over_more}
use Rattle.card_conversion.specs.LineEnds.{line_end}
use Rattle.card_conversion.proofs.line_ends.end_lines.Goals as goal

pub loop-octet-preserved : goal.loop-octet-preserved
loop-octet-preserved c =
    let octets = c.loop-octet.octets in
    let index = c.loop-octet.octet-index in
    let octet = get_or octets index 0 in
    rw c.line_end.ensures
    (map_over_more line_end c.args.octets.now octets index octet c.loop-octet-test.true
    c.loop-octet.invariant
    (get_or_default octets index 0 octet (omega arith)))
