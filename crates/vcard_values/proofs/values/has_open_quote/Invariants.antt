use Rattle.std.proofs.Common.{◌≡◌, false, fold, take}
use Rattle.vcard_values.specs.Values.{open_after}
use Rattle.vcard_values.proofs.values.has_open_quote.Given as goal

-- whether a quote is open after the octets so far
abbrev pub invariant-loop-octet : goal.invariant-loop-octet
invariant-loop-octet l = l.is_open ≡ fold open_after false (take l.octet-index l.octets)
