-- Splits a logical line from left to right, character by character. The result is the only folding
-- that Folding.antt allows.
use Rattle.std.specs.Prelude.{ℕ, ◌-◌, nat_lt, List, [], ◌∷◌, if◌then◌else◌}
use Rattle.std.specs.Char.{len_utf8}

-- the characters of the first physical line and of each continuation line
pub record Pieces : Type 0 where
  pub first : List ℕ
  pub further : List (List ℕ)

abbrev pub make_pieces : List ℕ → List (List ℕ) → Pieces
make_pieces first further = record { first = first; further = further }

-- the pieces with a character prepended to the first
abbrev pub prepend : ℕ → Pieces → Pieces
prepend c pieces = make_pieces (c ∷ pieces.first) pieces.further

-- the pieces after a new, empty first piece
abbrev pub prepend_empty : Pieces → Pieces
prepend_empty pieces = make_pieces [] (pieces.first ∷ pieces.further)

-- splits the characters; `room` is the number of octets that fit into the first physical line
unfoldable pub cut_pieces : ℕ → List ℕ → Pieces
cut_pieces room [] = make_pieces [] []
cut_pieces room (c ∷ cs) =
    if nat_lt room (len_utf8 c) then prepend_empty (prepend c (cut_pieces (74 - len_utf8 c) cs))
    else prepend c (cut_pieces (room - len_utf8 c) cs)
