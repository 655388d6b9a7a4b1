-- Units of UTF-16: what is read one after another is what is defined for all octets.
use Rattle.std.proofs.Common.{◌≡◌, ℕ, Bool, List, [], ◌∷◌, refl, ap, Some, None}
use Rattle.import_text.specs.Units.{unit_of, split_unit, units}
use Rattle.import_text.proofs.SplitLemmas.{same_split}

pub one_unit : (big : Bool) (octets : List ℕ) (unit : ℕ) (rest : List ℕ)
    → split_unit big octets ≡ Some (unit, rest) → units big octets ≡ unit ∷ units big rest
unfolding units
one_unit big [] unit rest e = cc
one_unit big (a ∷ []) unit rest e = cc
one_unit big (a ∷ b ∷ more) unit rest e =
    ap (λ p. p.0 ∷ units big p.1) (same_split (unit_of big a b, more) (unit, rest) e)

pub no_unit : (big : Bool) (octets : List ℕ) → split_unit big octets ≡ None → units big octets ≡ []
unfolding units
no_unit big [] e = refl
no_unit big (a ∷ []) e = refl
no_unit big (a ∷ b ∷ more) e = cc
