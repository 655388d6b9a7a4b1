use Rattle.std.proofs.Common.{ℕ, List}
use Rattle.card_conversion.specs.Courses.{Knows, counts_of}
use Rattle.card_conversion.specs.internal.PieceReaders.{HasEnded}
use Rattle.card_conversion.specs.internal.States.{Progress}
use Rattle.card_conversion.proofs.run.convert_more_cards.Given as goal

-- the reader is sound, and the pieces so far have their fates
abbrev pub invariant-loop-piece : goal.invariant-loop-piece
invariant-loop-piece g l =
    HasEnded g.R.Read.remaining l.pieces
    × ((uids : List (List ℕ)) → Knows l.fn.course uids
    → Progress g.O.CardSink.writes g.R.Read.remaining (g.R.Read.remaining l.fn.reader) uids
    (counts_of l.fn.course) l.fn.sink l.sink l.pieces l.course.uids (counts_of l.course))
