use Rattle.std.proofs.Common.{◌≡◌, fold, string_bytes}
use Rattle.std.specs.Prelude.{false}
use Rattle.vcard_export.specs.internal.SpellingLoop.{spell_char, spelling_state}
use Rattle.vcard_export.proofs.spelling.push_spelled.Given as goal

-- the characters so far are written
abbrev pub invariant-loop-c : goal.invariant-loop-c
invariant-loop-c l = record {
  can : (goal.iterator-loop-c).can_next l.c-iterator;
  ends : (goal.iterator-loop-c).is_finite l.c-iterator;
  so_far : spelling_state (string_bytes l.out) l.is_marked ≡ fold (spell_char l.spelling)
      (spelling_state (string_bytes l.fn.out) false) l.yielded;
}
