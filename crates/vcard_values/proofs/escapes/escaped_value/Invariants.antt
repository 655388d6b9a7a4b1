use Rattle.std.proofs.Common.{◌≡◌, [], fold, string_bytes}
use Rattle.std.specs.Prelude.{false}
use Rattle.vcard_values.specs.internal.RewriteLoop.{rewrite_char, rewrite_state}
use Rattle.vcard_values.proofs.escapes.escaped_value.Given as goal

-- the characters so far are rewritten
abbrev pub invariant-loop-c : goal.invariant-loop-c
invariant-loop-c l = record {
  can : (goal.iterator-loop-c).can_next l.c-iterator;
  ends : (goal.iterator-loop-c).is_finite l.c-iterator;
  so_far : rewrite_state (string_bytes l.out) l.is_escaped ≡ fold (rewrite_char l.form)
      (rewrite_state [] false) l.yielded;
}
