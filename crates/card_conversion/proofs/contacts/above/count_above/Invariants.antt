use Rattle.std.proofs.Common.{◌≡◌, fold, take}
use Rattle.card_conversion.specs.AboveLines.{with_line_above}
use Rattle.card_conversion.proofs.contacts.above.count_above.Given as goal

-- the lines so far are counted
abbrev pub invariant-loop-line : goal.invariant-loop-line
invariant-loop-line l = l.summary ≡ fold with_line_above l.fn.summary (take l.line-index l.lines)
