-- The first octet that quoted-printable octets encode, as the code reads it. Public contracts cite
-- none of this: at the end the loop computes what QuotedPrintable.antt defines.
use Rattle.std.specs.Prelude.{ℕ, List, [], ◌∷◌, Option, Some, None}
use Rattle.import_text.specs.QuotedPrintable.{escaped_octet}

-- an octet, if there is one, and the octets after it
abbrev pub and_rest : Option ℕ → List ℕ → Option (ℕ × List ℕ)
and_rest None rest = None
and_rest (Some octet) rest = Some (octet, rest)

-- the octet that the first three encode, and the octets after them
abbrev pub split_escape : List ℕ → Option (ℕ × List ℕ)
split_escape [] = None
split_escape (first ∷ []) = None
split_escape (first ∷ second ∷ []) = None
split_escape (first ∷ high ∷ low ∷ rest) = and_rest (escaped_octet first high low) rest

-- the first octet that is encoded, and the octets after it
abbrev pub or_first : Option (ℕ × List ℕ) → List ℕ → Option (ℕ × List ℕ)
or_first (Some split) octets = Some split
or_first None [] = None
or_first None (first ∷ rest) = Some (first, rest)

abbrev pub split_octet : List ℕ → Option (ℕ × List ℕ)
split_octet octets = or_first (split_escape octets) octets
