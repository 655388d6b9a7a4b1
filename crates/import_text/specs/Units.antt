-- UTF-16 in octets, after a byte order mark (RFC 2781, section 3.2).
use Rattle.std.specs.Prelude.{ℕ, Bool, true, false, ◌+◌, ◌*◌, List, [], ◌∷◌, Option, Some, None}
use Rattle.std.specs.Prelude.{if◌then◌else◌, ◌&&◌, ◌==◌}
use Rattle.std.specs.Option.{option_map}
use Rattle.std.specs.Str.{encode_utf8_all}
use Rattle.std.specs.Char.Utf16.{utf16_lossy_chars}

-- a unit of 16 bits; the flag says whether its first octet is the greater half
abbrev pub unit_of : Bool → ℕ → ℕ → ℕ
unit_of big first second = if big then first * 256 + second else second * 256 + first

-- the first unit, and the octets after it
abbrev pub split_unit : Bool → List ℕ → Option (ℕ × List ℕ)
split_unit big [] = None
split_unit big (first ∷ []) = None
split_unit big (first ∷ second ∷ rest) = Some (unit_of big first second, rest)

-- the units of the octets; an odd last octet is left out
unfoldable pub units : Bool → List ℕ → List ℕ
units big [] = []
units big (first ∷ []) = []
units big (first ∷ second ∷ rest) = unit_of big first second ∷ units big rest

-- the order that the byte order mark gives, and the octets after the mark
abbrev pub split_mark : List ℕ → Option (Bool × List ℕ)
split_mark [] = None
split_mark (first ∷ []) = None
split_mark (first ∷ second ∷ rest) =
    if first == 254 && second == 255 then Some (true, rest)
    else (if first == 255 && second == 254 then Some (false, rest)
    else None)

-- the text after the mark; a lone surrogate becomes U+FFFD
abbrev pub utf16_text_of : List ℕ → Option (List ℕ)
utf16_text_of octets =
    option_map (λ split. encode_utf8_all (utf16_lossy_chars (units split.0 split.1)))
    (split_mark octets)
