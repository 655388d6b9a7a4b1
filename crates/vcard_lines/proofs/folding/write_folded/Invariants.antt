use Rattle.std.proofs.Common.{◌≡◌, ◌≤◌, fold, length, chars, IsUtf8, string_bytes}
use Rattle.vcard_lines.specs.internal.FoldingLoop.{fold_char, fold_state}
use Rattle.vcard_lines.proofs.folding.write_folded.Given as goal

-- folding the rest after what is written equals folding the whole line after the old text
abbrev pub invariant-loop-room : goal.invariant-loop-room
invariant-loop-room l = record {
  utf8 : IsUtf8 l.rest;
  room : (74 ≤ l.room) × (l.room ≤ 75);
  so_far : fold fold_char (fold_state (string_bytes l.out) l.room) (chars l.rest)
      ≡ fold fold_char (fold_state (string_bytes l.fn.out) 75) (chars l.line);
}

abbrev pub decreases-loop-room : goal.decreases-loop-room
decreases-loop-room l = length l.rest
