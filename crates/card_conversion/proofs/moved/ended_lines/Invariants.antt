use Rattle.std.proofs.Common.{◌≡◌, flat_map, take}
use Rattle.card_conversion.specs.Moved.{ended_line}
use Rattle.card_conversion.proofs.moved.ended_lines.Given as goal

-- the text of the lines so far
abbrev pub invariant-loop-line : goal.invariant-loop-line
invariant-loop-line l = l.text.items ≡ flat_map ended_line (take l.line-index l.lines)
