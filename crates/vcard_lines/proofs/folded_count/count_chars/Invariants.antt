use Rattle.std.proofs.Common.{fold}
use Rattle.vcard_lines.specs.internal.FoldingLoop.{FoldState, IsCount, fold_char}
use Rattle.vcard_lines.proofs.folded_count.count_chars.Given as goal

-- the characters so far are counted
abbrev pub invariant-loop-c : goal.invariant-loop-c
invariant-loop-c l = record {
  can : (goal.iterator-loop-c).can_next l.c-iterator;
  ends : (goal.iterator-loop-c).is_finite l.c-iterator;
  so_far : (part : FoldState) → IsCount l.initial.count part
      → IsCount l.count (fold fold_char part l.yielded);
}
