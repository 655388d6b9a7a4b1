use Rattle.card_conversion.proofs.ExportLemmas.{begun, joined, one_text}
use Rattle.card_conversion.proofs.exports.convert_row.Goals as goal

pub loop-piece-init : goal.loop-piece-init
loop-piece-init g c = λ uids known. begun g.O.CardSink.writes uids c.args.course.now _
    c.args.sink.now known c.go_to_line.ensures

pub loop-piece-preserved : goal.loop-piece-preserved
loop-piece-preserved g c = λ uids known.
    joined g.O.CardSink.writes uids c.args.course.now c.loop-piece.course _ c.args.sink.now
    c.loop-piece.sink c.convert_piece.new.sink (c.loop-piece.invariant uids known)
    (λ more knows. one_text g.O.CardSink.writes more c.split_piece.result.0.now c.in_ok-fate.fate
    c.loop-piece.course _ c.loop-piece.sink c.convert_piece.new.sink c.in_ok-fate.ensures.taken
    c.count.ensures knows)
