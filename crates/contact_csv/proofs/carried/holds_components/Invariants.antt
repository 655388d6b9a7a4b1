use Rattle.std.proofs.Common.{codes, length}
use denote.Text.{Utf8}
use denote.Shadow.{shadow}
use Rattle.contact_csv.specs.Carrying.{ArePartsHeld, IsComponentPart}
use Rattle.contact_csv.proofs.carried.holds_components.Given as goal

-- if the parts that are left are held, all are
abbrev pub invariant-loop-part : goal.invariant-loop-part
invariant-loop-part l = shadow (Utf8 l.rest)
    × (ArePartsHeld (codes " ::: ")
    (λ part. IsComponentPart l.fn.property l.fn.index part l.fn.lines) l.rest
    → ArePartsHeld (codes " ::: ")
    (λ part. IsComponentPart l.fn.property l.fn.index part l.fn.lines) l.fn.text)

abbrev pub decreases-loop-part : goal.decreases-loop-part
decreases-loop-part l = length l.rest
