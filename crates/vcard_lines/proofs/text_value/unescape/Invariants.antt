use Rattle.std.proofs.Common.{◌≡◌, [], fold, string_bytes}
use Rattle.std.specs.Prelude.{false}
use Rattle.vcard_lines.specs.internal.UnescapeLoop.{unescape_state, unescape_char}
use Rattle.vcard_lines.proofs.text_value.unescape.Given as goal

-- the characters so far are read
abbrev pub invariant-loop-c : goal.invariant-loop-c
invariant-loop-c l = record {
  can : (goal.iterator-loop-c).can_next l.c-iterator;
  ends : (goal.iterator-loop-c).is_finite l.c-iterator;
  so_far : unescape_state (string_bytes l.text) l.is_escaped ≡ fold unescape_char
      (unescape_state [] false) l.yielded;
}
