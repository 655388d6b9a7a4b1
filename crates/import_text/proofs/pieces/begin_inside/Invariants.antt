use Rattle.std.proofs.Common.{◌≡◌, ◌+◌, length}
use Rattle.import_text.specs.Pieces.{begin_inside}
use Rattle.import_text.proofs.InsideLemmas.{after, line_of}
use Rattle.import_text.proofs.pieces.begin_inside.Given as goal

-- what is found in the line is found after the octets that were passed
abbrev pub invariant-loop-octet : goal.invariant-loop-octet
invariant-loop-octet l = record {
  found : begin_inside (line_of l.octets) ≡ after l.count (begin_inside (line_of l.rest));
  passed : length l.octets ≡ l.count + length l.rest;
}

abbrev pub decreases-loop-octet : goal.decreases-loop-octet
decreases-loop-octet l = length l.rest
