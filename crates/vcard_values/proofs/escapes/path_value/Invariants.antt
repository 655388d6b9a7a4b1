use Rattle.std.proofs.Common.{◌≡◌, flat_map, string_bytes}
use Rattle.std.specs.Str.{encode_utf8_all}
use Rattle.vcard_values.specs.Escapes.{plain_units, unit_chars}
use Rattle.vcard_values.proofs.escapes.path_value.Given as goal

-- the characters so far are rewritten
abbrev pub invariant-loop-c : goal.invariant-loop-c
invariant-loop-c l = record {
  can : (goal.iterator-loop-c).can_next l.c-iterator;
  ends : (goal.iterator-loop-c).is_finite l.c-iterator;
  so_far : string_bytes l.out ≡ encode_utf8_all (flat_map unit_chars
      (flat_map (plain_units l.form) l.yielded));
}
