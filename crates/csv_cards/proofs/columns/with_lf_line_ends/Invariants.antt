use Rattle.std.proofs.Common.{◌≡◌, [], fold, string_bytes}
use Rattle.std.specs.Prelude.{false}
use Rattle.csv_cards.specs.internal.LineEnds.{line_end_state, append_char}
use Rattle.csv_cards.proofs.columns.with_lf_line_ends.Given as goal

-- the characters so far are read
abbrev pub invariant-loop-c : goal.invariant-loop-c
invariant-loop-c l = record {
  can : (goal.iterator-loop-c).can_next l.c-iterator;
  ends : (goal.iterator-loop-c).is_finite l.c-iterator;
  so_far : line_end_state (string_bytes l.plain) l.is_held
      ≡ fold append_char (line_end_state [] false) l.yielded;
}
