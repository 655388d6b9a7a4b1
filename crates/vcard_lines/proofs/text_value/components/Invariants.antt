use Rattle.std.proofs.Common.{◌≡◌, [], fold, map, string_bytes}
use Rattle.std.specs.Prelude.{false}
use Rattle.vcard_lines.specs.internal.UnescapeLoop.{unescape_state, split_state, split_char}
use Rattle.vcard_lines.proofs.text_value.components.Given as goal

-- the characters so far are read
abbrev pub invariant-loop-c : goal.invariant-loop-c
invariant-loop-c l = record {
  can : (goal.iterator-loop-c).can_next l.c-iterator;
  ends : (goal.iterator-loop-c).is_finite l.c-iterator;
  so_far : split_state (map string_bytes l.parts.items) (unescape_state (string_bytes l.text)
      l.is_escaped) ≡ fold split_char (split_state [] (unescape_state [] false)) l.yielded;
}
