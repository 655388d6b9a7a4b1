use Rattle.std.proofs.Common.{◌≡◌, take, map, string_bytes}
use Rattle.std.specs.Str.{encode_utf8_all}
use Rattle.import_text.specs.Encodings.{char_in}
use Rattle.import_text.proofs.charsets.read_charset.Given as goal

-- the octets so far are written
abbrev pub invariant-loop-octet : goal.invariant-loop-octet
invariant-loop-octet l = string_bytes l.text
    ≡ encode_utf8_all (map (char_in l.charset.first l.charset.chars.now)
    (take l.octet-index l.octets))
