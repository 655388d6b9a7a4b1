use Rattle.std.proofs.Common.{◌≡◌, ◌≤◌, ◌-◌, ◌+◌, true, length, drop}
use Rattle.import_text.specs.Pieces.{outside, piece_len, whole_lines}
use Rattle.import_text.proofs.pieces.piece_len.Given as goal

abbrev pub invariant-loop-end : goal.invariant-loop-end
invariant-loop-end l = record {
  within : l.end ≤ length l.octets;
  depth : l.nesting.depth ≤ l.end;
  begun : l.end ≡ 0 → l.nesting.may_begin ≡ true;
  len : piece_len l.inside outside (whole_lines l.octets) ≡ l.end + piece_len l.inside l.nesting
      (whole_lines (drop l.end l.octets));
}

abbrev pub decreases-loop-end : goal.decreases-loop-end
decreases-loop-end l = length l.octets - l.end
