use Rattle.std.proofs.Common.{ℕ, List}
use Rattle.card_conversion.specs.Courses.{ConvertsTexts, Knows}
use Rattle.card_conversion.proofs.exports.convert_row.Given as goal

-- the pieces so far were converted
abbrev pub invariant-loop-piece : goal.invariant-loop-piece
invariant-loop-piece g l =
    (uids : List (List ℕ)) → Knows l.fn.course uids
    → ConvertsTexts g.O.CardSink.writes uids l.fn.course l.course l.fn.sink l.sink
