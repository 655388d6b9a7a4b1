use Rattle.std.proofs.Common.{◌≡◌, length}
use Rattle.vcard_import.specs.Folds.{is_cut}
use Rattle.vcard_import.proofs.folds.is_cut.Given as goal

-- what is left decides
abbrev pub invariant-loop-line : goal.invariant-loop-line
invariant-loop-line l = is_cut l.cut l.rest ≡ is_cut l.cut l.lines

abbrev pub decreases-loop-line : goal.decreases-loop-line
decreases-loop-line l = length l.rest
