use Rattle.std.proofs.Common.{◌≡◌, map, string_bytes}
use Rattle.std.specs.Str.{encode_utf8_all}
use Rattle.vcard_values.specs.KeptTexts.{kept_char}
use Rattle.vcard_values.proofs.kept_texts.kept_text.Given as goal

-- the characters so far are kept
abbrev pub invariant-loop-c : goal.invariant-loop-c
invariant-loop-c l = record {
  can : (goal.iterator-loop-c).can_next l.c-iterator;
  ends : (goal.iterator-loop-c).is_finite l.c-iterator;
  so_far : string_bytes l.out ≡ encode_utf8_all (map kept_char l.yielded);
}
