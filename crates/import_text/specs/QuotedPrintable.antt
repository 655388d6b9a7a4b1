-- Quoted-printable octets (RFC 2045, section 6.7): an equals sign and two hexadecimal digits encode
-- an octet. Soft line breaks were joined before, as RawLines.antt says.
use Rattle.std.specs.Prelude.{ℕ, ◌&&◌, ◌==◌, nat_le, ◌+◌, ◌-◌, ◌*◌, List, [], ◌∷◌}
use Rattle.std.specs.Prelude.{Option, Some, None, if◌then◌else◌}
use Rattle.base_types.specs.Octets.{equals, is_digit}

-- the value of a hexadecimal digit, in either case
abbrev pub hex_value : ℕ → Option ℕ
hex_value digit =
    if is_digit digit then Some (digit - 48)
    else (if nat_le 65 digit && nat_le digit 70 then Some (digit - 55)
    else (if nat_le 97 digit && nat_le digit 102 then Some (digit - 87)
    else None))

-- the octet of two hexadecimal digits
abbrev pub octet_of : Option ℕ → Option ℕ → Option ℕ
octet_of None low = None
octet_of (Some high) None = None
octet_of (Some high) (Some low) = Some (high * 16 + low)

-- the octet that these three encode, if they are an equals sign and two hexadecimal digits
abbrev pub escaped_octet : ℕ → ℕ → ℕ → Option ℕ
escaped_octet first high low =
    if first == equals then octet_of (hex_value high) (hex_value low) else None

-- The octet before `decoded` if three octets encode one, and otherwise the first of them before
-- `plain`.
abbrev pub put_octet : Option ℕ → ℕ → List ℕ → List ℕ → List ℕ
put_octet None first decoded plain = first ∷ plain
put_octet (Some octet) first decoded plain = octet ∷ decoded

-- The octets that these encode. An equals sign without two digits after it is itself, as is any
-- other octet.
unfoldable pub quoted_printable : List ℕ → List ℕ
quoted_printable [] = []
quoted_printable (first ∷ []) = first ∷ []
quoted_printable (first ∷ second ∷ []) = first ∷ second ∷ []
quoted_printable (first ∷ high ∷ low ∷ rest) =
    put_octet (escaped_octet first high low) first (quoted_printable rest)
    (quoted_printable (high ∷ low ∷ rest))
