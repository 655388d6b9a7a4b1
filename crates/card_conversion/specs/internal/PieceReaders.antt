-- What a reader of pieces has left.
use Rattle.std.specs.Prelude.{ℕ, List, drop, Option, None, Some, IsTrue}
use Rattle.std.specs.Io.KnownBytes.{IsAtEnd, prepend_known}
use Rattle.card_conversion.specs.Cuts.{AreCutOff, IsCutOff}
use Rattle.card_conversion.specs.declared.piece_reader.PieceReader.{PieceReader}

-- the octets that were read but not passed yet
abbrev pub unread_of : {R : Type 0} → PieceReader R → List ℕ
unread_of pieces = drop pieces.start pieces.buffer.items

-- the octets that were not passed yet, where they are known
abbrev pub left_of : {R : Type 0} → (R → Option (List ℕ)) → PieceReader R → Option (List ℕ)
left_of remaining pieces = prepend_known (unread_of pieces) (remaining pieces.reader)

-- where the end was seen, the reader has no more octets
abbrev pub HasEnded : {R : Type 0} → (R → Option (List ℕ)) → PieceReader R → Type 0
HasEnded remaining pieces = IsTrue pieces.is_at_end → IsAtEnd (remaining pieces.reader)

-- the piece is cut off what is left, where that is known
abbrev pub IsCutFrom : Option (List ℕ) → List ℕ → Type 0
IsCutFrom None piece = Unit {0}
IsCutFrom (Some left) piece = IsCutOff left piece

-- the pieces are cut off the input, where it is known, and these octets are left
abbrev pub AreCutFrom : Option (List ℕ) → List (List ℕ) → Option (List ℕ) → Type 0
AreCutFrom None pieces left = Unit {0}
AreCutFrom (Some octets) pieces None = ⊥
AreCutFrom (Some octets) pieces (Some left) = AreCutOff octets pieces left
