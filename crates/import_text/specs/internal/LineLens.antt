-- The length of the first physical line, as the code finds it. Public contracts cite none of this.
use Rattle.std.specs.Prelude.{ℕ, ◌+◌, List, length, min}
use Rattle.import_text.specs.Pieces.{first_line}

-- the number of octets of the first line, with its line feed if it has one
abbrev pub line_len : List ℕ → ℕ
line_len octets = min (length (first_line octets) + 1) (length octets)
