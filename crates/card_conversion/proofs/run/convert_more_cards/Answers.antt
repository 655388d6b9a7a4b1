use Rattle.std.proofs.Common.{rules}
use Rattle.card_conversion.specs.Courses.{counts_of}
use Rattle.card_conversion.proofs.ProgressLemmas.{all_done, begun, one_piece}
use Rattle.card_conversion.proofs.run.convert_more_cards.Goals as goal

pub loop-piece-init : goal.loop-piece-init
loop-piece-init g c = (
  c.new-pieces.ensures.ended,
  λ uids known.
      begun g.O.CardSink.writes g.R.Read.remaining (g.R.Read.remaining c.args.reader) uids
      (counts_of c.args.course.now) c.args.sink.now c.new-pieces.result c.args.course.now.uids
      c.begin_file.new.self.summary
      c.new-pieces.ensures.left c.new-pieces.ensures.ended known c.begin_file.ensures,
)

pub returns-in_default : goal.returns-in_default
returns-in_default g c uids known =
    all_done g.O.CardSink.writes g.R.Read.remaining (g.R.Read.remaining c.args.reader) uids
    c.args.course.now c.loop-piece.course c.args.sink.now c.loop-piece.sink c.loop-piece.pieces
    c.find_piece.new.self
    (c.loop-piece.invariant.1 uids known) c.in_ok-len.ensures.left
    (c.in_ok-len.ensures.none (search rules))

pub loop-piece-preserved : goal.loop-piece-preserved
loop-piece-preserved g c = (
  c.pass.ensures.ended c.in_ok-len.ensures.ended,
  λ uids known.
      one_piece g.O.CardSink.writes g.R.Read.remaining (g.R.Read.remaining c.args.reader) uids
      (counts_of c.args.course.now) c.args.sink.now c.loop-piece.sink c.convert_piece.new.sink
      c.loop-piece.pieces c.find_piece.new.self c.pass.new.self c.loop-piece.course.uids
      c.convert_piece.new.uids c.piece-piece.result.now c.in_ok-fate.fate
      (counts_of c.loop-piece.course) c.count.new.self.summary
      (c.loop-piece.invariant.1 uids known) c.in_ok-len.ensures.left
      (rw c.piece-piece.ensures (search (rules)))
      (rw c.piece-piece.ensures c.pass.ensures.left)
      (c.pass.ensures.ended c.in_ok-len.ensures.ended) c.in_ok-fate.ensures.taken
      c.count.ensures,
)

pub find_piece-requires : goal.find_piece-requires
find_piece-requires g c = c.loop-piece.invariant.0
