use Rattle.std.proofs.Common.{◌≡◌, ◌++◌, map, take, drop}
use Rattle.card_conversion.specs.LineEnds.{line_end}
use Rattle.card_conversion.proofs.line_ends.end_lines.Given as goal

-- the octets so far were changed, and the others weren't
abbrev pub invariant-loop-octet : goal.invariant-loop-octet
invariant-loop-octet l = l.octets ≡ map line_end (take l.octet-index l.fn.octets)
    ++ drop l.octet-index l.fn.octets
