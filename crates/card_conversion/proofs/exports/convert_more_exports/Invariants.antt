use Rattle.std.proofs.Common.{ℕ, List}
use Rattle.card_conversion.specs.Courses.{ConvertsTexts, Knows}
use Rattle.card_conversion.proofs.exports.convert_more_exports.Given as goal

-- the rows so far were converted
abbrev pub invariant-loop-row : goal.invariant-loop-row
invariant-loop-row g l =
    (uids : List (List ℕ)) → Knows l.fn.course uids
    → ConvertsTexts g.O.CardSink.writes uids l.fn.course l.course l.fn.sink l.sink
