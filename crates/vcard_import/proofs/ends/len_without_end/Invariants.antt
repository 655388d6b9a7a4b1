use Rattle.std.proofs.Common.{◌≡◌, ◌≤◌, ◌+◌, length}
use Rattle.vcard_import.specs.Ends.{len_without_end}
use Rattle.vcard_import.proofs.ends.len_without_end.Given as goal

-- what was read, and the octets up to the END of what is left, are those up to the END of all
abbrev pub invariant-loop-octet : goal.invariant-loop-octet
invariant-loop-octet l = (length l.octets + len_without_end l.rest ≡ len_without_end l.octets +
    length l.rest) × (length l.rest ≤ length l.octets)

abbrev pub decreases-loop-octet : goal.decreases-loop-octet
decreases-loop-octet l = length l.rest
