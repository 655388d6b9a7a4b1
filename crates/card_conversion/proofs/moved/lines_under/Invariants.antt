use Rattle.std.proofs.Common.{◌≡◌, take}
use Rattle.card_conversion.specs.Moved.{lines_under}
use Rattle.card_conversion.proofs.moved.lines_under.Given as goal

-- the lines so far are under the UID
abbrev pub invariant-loop-line : goal.invariant-loop-line
invariant-loop-line l = l.made.items ≡ lines_under l.uid (take l.line-index l.lines)
