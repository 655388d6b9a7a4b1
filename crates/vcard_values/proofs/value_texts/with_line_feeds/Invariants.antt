use Rattle.std.proofs.Common.{◌≡◌, [], fold, string_bytes}
use Rattle.std.specs.Prelude.{false}
use Rattle.vcard_values.specs.internal.BreakLoop.{break_char, break_state}
use Rattle.vcard_values.proofs.value_texts.with_line_feeds.Given as goal

-- the characters so far have a line feed for each line break
abbrev pub invariant-loop-c : goal.invariant-loop-c
invariant-loop-c l = record {
  can : (goal.iterator-loop-c).can_next l.c-iterator;
  ends : (goal.iterator-loop-c).is_finite l.c-iterator;
  so_far : break_state (string_bytes l.out) l.is_after_return ≡ fold break_char
      (break_state [] false) l.yielded;
}
