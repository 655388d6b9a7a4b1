use Rattle.std.proofs.Common.{◌≡◌, flat_map, string_bytes}
use Rattle.std.specs.Str.{encode_utf8_all}
use Rattle.contact_values.specs.Carets.{caret_char}
use Rattle.contact_values.proofs.lines.caret_text.Given as goal

-- the characters so far are written
abbrev pub invariant-loop-c : goal.invariant-loop-c
invariant-loop-c l = record {
  can : (goal.iterator-loop-c).can_next l.c-iterator;
  ends : (goal.iterator-loop-c).is_finite l.c-iterator;
  so_far : string_bytes l.value ≡ encode_utf8_all (flat_map (caret_char) l.yielded);
}
