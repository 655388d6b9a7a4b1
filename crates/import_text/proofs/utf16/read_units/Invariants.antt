use Rattle.std.proofs.Common.{◌≡◌, ◌++◌, length}
use Rattle.import_text.specs.Units.{units}
use Rattle.import_text.proofs.utf16.read_units.Given as goal

-- the units so far, and those of what is left, are all units
abbrev pub invariant-loop-unit : goal.invariant-loop-unit
invariant-loop-unit l = l.read.items ++ units l.big l.rest ≡ units l.big l.octets

abbrev pub decreases-loop-unit : goal.decreases-loop-unit
decreases-loop-unit l = length l.rest
