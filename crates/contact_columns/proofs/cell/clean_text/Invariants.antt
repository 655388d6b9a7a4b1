use Rattle.std.proofs.Common.{◌≡◌, false, string_bytes}
use Rattle.std.specs.Str.{encode_utf8_all}
use Rattle.contact_columns.specs.Cells.{clean_chars}
use Rattle.contact_columns.proofs.TextLemmas.{ends_with_return}
use Rattle.contact_columns.proofs.cell.clean_text.Given as goal

-- the characters so far are written
abbrev pub invariant-loop-c : goal.invariant-loop-c
invariant-loop-c l = record {
  can : (goal.iterator-loop-c).can_next l.c-iterator;
  ends : (goal.iterator-loop-c).is_finite l.c-iterator;
  returned : l.is_after_return ≡ ends_with_return false l.yielded;
  so_far : string_bytes l.clean ≡ encode_utf8_all (clean_chars false l.yielded);
}
