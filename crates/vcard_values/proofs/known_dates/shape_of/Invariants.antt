use Rattle.std.proofs.Common.{◌≡◌, map, take}
use Rattle.vcard_values.specs.Dates.{zeroed}
use Rattle.vcard_values.proofs.known_dates.shape_of.Given as goal

-- the octets so far, with a 0 for each digit
abbrev pub invariant-loop-octet : goal.invariant-loop-octet
invariant-loop-octet l = l.shape.items ≡ map zeroed (take l.octet-index l.octets)
