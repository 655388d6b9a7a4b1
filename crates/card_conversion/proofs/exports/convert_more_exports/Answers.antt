use Rattle.std.proofs.Common.{refl}
use Rattle.card_conversion.proofs.ExportLemmas.{begun, joined}
use Rattle.card_conversion.proofs.exports.convert_more_exports.Goals as goal

pub loop-row-init : goal.loop-row-init
loop-row-init g c = λ uids known. begun g.O.CardSink.writes uids c.args.course.now c.args.course.now
    c.args.sink.now known refl

pub loop-row-preserved : goal.loop-row-preserved
loop-row-preserved g c = λ uids known.
    joined g.O.CardSink.writes uids c.args.course.now c.loop-row.course c.convert_row.new.course
    c.args.sink.now c.loop-row.sink c.convert_row.new.sink (c.loop-row.invariant uids known)
    c.in_ok-convert_row-in-Ok-Some.ensures
