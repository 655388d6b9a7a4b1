use Rattle.std.proofs.Common.{◌≡◌, length}
use Rattle.import_text.specs.RawLines.{has_word}
use Rattle.import_text.proofs.words.has_word.Given as goal

-- the word is in what is left exactly if it is in the octets
abbrev pub invariant-loop-tail : goal.invariant-loop-tail
invariant-loop-tail l = has_word l.word l.rest ≡ has_word l.word l.octets

abbrev pub decreases-loop-tail : goal.decreases-loop-tail
decreases-loop-tail l = length l.rest
