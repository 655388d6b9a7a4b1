-- What a hub knows of its places without going over them.
use Rattle.std.specs.Prelude.{◌≡◌, ◌≤◌, ◌<◌, ℕ, List, Option, Some, count_by, is_some, length}
use Rattle.std.specs.Prelude.{slice_get}
use Rattle.http_hub.specs.Links.{LinkValue}

-- every connection has a place below this number
abbrev pub AreOpenBelow : List (Option LinkValue) → ℕ → Type 0
AreOpenBelow slots end = (place : ℕ) (link : LinkValue)
    → slice_get slots place ≡ Some (Some link) → place < end

-- the number of open connections, and a bound on their places
pub record CountsPlaces (slots : List (Option LinkValue)) (count end : ℕ) : Type 0 where
  pub counted : count ≡ count_by is_some slots
  pub below : AreOpenBelow slots end
  pub within : end ≤ length slots
