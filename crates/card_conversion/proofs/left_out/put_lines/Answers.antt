use Rattle.std.proofs.Common.{arith, subst}
use Rattle.std.proofs.lemmas.List.{take_all}
use Rattle.card_conversion.specs.Media.{PutsLines}
use Rattle.card_conversion.proofs.MediaLemmas.{line_step}
use Rattle.card_conversion.proofs.left_out.put_lines.Goals as goal

pub loop-line-preserved : goal.loop-line-preserved
loop-line-preserved g c =
    line_step (g.P.MediaSink.takes c.args.uid.now) c.args.lines.now c.loop-line.line-index
    c.line-item.result c.loop-line.all.items c.push.new.self.items c.in_ok-delivery.delivery
    c.args.media.now c.loop-line.media c.put_line.new.media
    c.loop-line-test.true c.line-item.is c.in_ok-push.ensures.items c.loop-line.invariant
    c.in_ok-delivery.ensures

pub returns : goal.returns
returns g c =
    subst (λ lines. PutsLines (g.P.MediaSink.takes c.args.uid.now) lines c.loop-line.all.items
    c.args.media.now c.loop-line.media) (take_all c.loop-line.line-index c.args.lines.now
    (omega arith))
    c.loop-line.invariant
