use Rattle.std.proofs.Common.{◌≡◌, not, filter, take}
use Rattle.std.specs.Char.{is_ascii_whitespace}
use Rattle.vcard_values.proofs.binary.without_space.Given as goal

-- the octets so far, but for white space
abbrev pub invariant-loop-octet : goal.invariant-loop-octet
invariant-loop-octet l = l.octets.items ≡ filter (λ octet. not (is_ascii_whitespace octet))
    (take l.octet-index l.text)
