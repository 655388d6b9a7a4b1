use Rattle.std.proofs.Common.{take}
use Rattle.card_conversion.specs.Media.{PutsLines}
use Rattle.card_conversion.proofs.left_out.put_lines.Given as goal

-- what became of what the lines so far have in them
abbrev pub invariant-loop-line : goal.invariant-loop-line
invariant-loop-line g l = PutsLines (g.P.MediaSink.takes l.uid) (take l.line-index l.lines)
    l.all.items l.fn.media l.media
