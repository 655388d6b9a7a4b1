use Rattle.std.proofs.Common.{◌≡◌, ◌++◌, take, flat_map, encode_utf8, string_bytes}
use Rattle.vcard_export.proofs.value.push_octets.Given as goal

-- the octets so far are written
abbrev pub invariant-loop-octet : goal.invariant-loop-octet
invariant-loop-octet l = string_bytes l.out ≡ string_bytes l.fn.out ++ flat_map encode_utf8
    (take l.octet-index l.octets)
