-- Where UTF-16 may be cut, so that the text is that of both parts. Public contracts don't cite it.
use Rattle.std.specs.Prelude.{ℕ, ◌≡◌, ◌&&◌, Bool, false, List, [], ◌∷◌, if◌then◌else◌, ⊤}
use Rattle.std.specs.Char.Utf16.{is_high_surrogate, is_low_surrogate}

-- the byte order mark
abbrev pub mark_of : Bool → List ℕ
mark_of is_big = if is_big then 254 ∷ 255 ∷ [] else 255 ∷ 254 ∷ []

-- the octets are whole units
abbrev pub AreUnits : List ℕ → Type 0
AreUnits [] = ⊤
AreUnits (first ∷ []) = ⊥
AreUnits (first ∷ second ∷ octets) = AreUnits octets

-- the unit and the one after it are no pair
abbrev pub StandsAlone : ℕ → List ℕ → Type 0
StandsAlone unit [] = ⊤
StandsAlone unit (next ∷ units) = (is_high_surrogate unit && is_low_surrogate next) ≡ false

-- the last of the units before and the first of those after them are no pair
abbrev pub AreApart : List ℕ → List ℕ → Type 0
AreApart [] after = ⊤
AreApart (unit ∷ []) after = StandsAlone unit after
AreApart (unit ∷ next ∷ units) after = AreApart (next ∷ units) after
