-- Where a file is cut into pieces.
use Rattle.std.specs.Prelude.{ℕ, ◌≡◌, ◌≤◌, ◌⊎◌, ◌++◌, List, [], ◌∷◌, Option, None, Some, drop, length}
use Rattle.import_text.specs.Pieces.{first_text}

-- The piece is the first one of the octets that are left. All of these were looked at, or at least
-- 8,388,608 of them.
pub record IsCutOff (left piece : List ℕ) : Type 0 where
  pub seen : List ℕ
  pub unseen : List ℕ
  pub split : left ≡ seen ++ unseen
  pub enough : (unseen ≡ []) ⊎ (8388608 ≤ length seen)
  pub first : piece ≡ first_text seen

-- The pieces are cut off the octets, one after another, and these are left.
abbrev pub AreCutOff : List ℕ → List (List ℕ) → List ℕ → Type 0
AreCutOff octets [] left = octets ≡ left
AreCutOff octets (piece ∷ pieces) left =
    IsCutOff octets piece × AreCutOff (drop (length piece) octets) pieces left
