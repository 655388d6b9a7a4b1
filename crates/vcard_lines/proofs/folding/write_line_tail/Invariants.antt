use Rattle.std.proofs.Common.{◌≡◌, ◌≤◌, fold, string_bytes}
use Rattle.vcard_lines.specs.internal.FoldingLoop.{fold_char, fold_state}
use Rattle.vcard_lines.proofs.folding.write_line_tail.Given as goal

-- the characters so far were appended to the old text
abbrev pub invariant-loop-c : goal.invariant-loop-c
invariant-loop-c l = record {
  can : (goal.iterator-loop-c).can_next l.c-iterator;
  ends : (goal.iterator-loop-c).is_finite l.c-iterator;
  room : l.room ≤ 75;
  so_far : fold_state (string_bytes l.out) l.room
      ≡ fold fold_char (fold_state (string_bytes l.fn.out) l.fn.room) l.yielded;
}
