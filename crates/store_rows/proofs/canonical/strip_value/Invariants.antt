use Rattle.std.proofs.Common.{◌≤◌, IsAscii, length}
use Rattle.store_rows.specs.internal.Stripping.{folded_rest}
use Rattle.store_rows.proofs.FoldStripLemmas.{StripsOn}
use Rattle.store_rows.proofs.canonical.strip_value.Given as goal

-- stripping the rest of the value from the rest of the text is stripping the value from the text
abbrev pub invariant-loop-fits : goal.invariant-loop-fits
invariant-loop-fits l = record {
  ascii : IsAscii l.left;
  room : 1 ≤ l.fits;
  on : StripsOn l.text (folded_rest l.room l.value) l.rest (folded_rest l.fits l.left);
}

abbrev pub decreases-loop-fits : goal.decreases-loop-fits
decreases-loop-fits l = length l.left
