-- What is known of a file's first piece before all of the file was read.
use Rattle.std.specs.Prelude.{ℕ, ◌≡◌, ◌==◌, ◌++◌, Bool, true, List, drop, length}
use Rattle.std.specs.List.{list_any}
use Rattle.base_types.specs.Octets.{line_feed}
use Rattle.import_text.specs.Pieces.{first_text}

-- a line ends in the octets
abbrev pub has_line_end : List ℕ → Bool
has_line_end octets = list_any (λ octet. octet == line_feed) octets

-- once a line after the first piece has ended, the piece is that of the whole file
abbrev pub PiecesStay : Type 0
PiecesStay = (octets more : List ℕ)
    → has_line_end (drop (length (first_text octets)) octets) ≡ true
    → first_text (octets ++ more) ≡ first_text octets
