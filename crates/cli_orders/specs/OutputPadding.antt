-- Texts padded with spaces to a fixed width. A longer text isn't cut.
use Rattle.std.specs.Prelude.{ℕ, ◌-◌, List, [], ◌∷◌, ◌++◌, length}
use Rattle.std.specs.List.{repeat}
use Rattle.base_types.specs.Octets.{space}

-- `count` spaces
abbrev pub spaces : ℕ → List ℕ
spaces count = repeat count (space ∷ [])

abbrev pub left_aligned : ℕ → List ℕ → List ℕ
left_aligned places text = text ++ spaces (places - length text)

abbrev pub right_aligned : ℕ → List ℕ → List ℕ
right_aligned places text = spaces (places - length text) ++ text
