-- The pieces of a connection's input.
use Rattle.std.specs.Prelude.{◌≡◌, ◌<◌, ◌≤◌, ◌*◌, ℕ, List, length, All}
use Rattle.std.specs.List.{concat}

-- the most octets that one read brings
abbrev pub piece_octets_max : ℕ
piece_octets_max = 16384

-- the most reads of one connection that bring octets
abbrev pub pieces_max : ℕ
pieces_max = 1000000

-- the most octets that are read and dropped when a connection is closed
abbrev pub dropped_octets_max : ℕ
dropped_octets_max = 1000 * piece_octets_max

-- what one read brings before the end of the input
pub record IsPiece (octets : List ℕ) : Type 0 where
  pub some : 0 < length octets
  pub at_most : length octets ≤ piece_octets_max

-- the octets are that many pieces, one after another
pub record IsInPieces (octets : List ℕ) (count : ℕ) : Type 0 where
  pub pieces : List (List ℕ)
  pub each : All IsPiece pieces
  pub octets_are : octets ≡ concat pieces
  pub count_is : length pieces ≡ count
