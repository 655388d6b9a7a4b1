-- Sets of texts, as lists of octet lists.
use Rattle.std.specs.Prelude.{ℕ, ◌≡◌, ◌↔◌, ◌⊎◌, List}
use Rattle.std.specs.List.{Contains}

-- The new set has the texts of the old set and this text.
pub record GainsText (old new : List (List ℕ)) (text : List ℕ) : Type 0 where
  pub texts : (other : List ℕ) → Contains new other ↔ (Contains old other ⊎ (other ≡ text))
