-- The octets before the first line feed.
use Rattle.std.proofs.Common.{◌≡◌, ◌==◌, ◌∷◌, [], ℕ, Bool, true, false, List, length, take, not}
use Rattle.std.proofs.Common.{cond, refl, sym, ap, subst}
use Rattle.std.proofs.lemmas.List.Sums.{take_while-cons}
use Rattle.base_types.specs.Octets.{line_feed}
use Rattle.card_conversion.specs.Fates.{first_line}

with_octet : (octet : ℕ) (octets front : List ℕ) (b : Bool) → take (length front) octets ≡ front
    → take (length (cond b (octet ∷ front) [])) (octet ∷ octets) ≡ cond b (octet ∷ front) []
with_octet octet octets front true e = ap (λ ys. octet ∷ ys) e
with_octet octet octets front false e = refl

pub take_first : (octets : List ℕ) → take (length (first_line octets)) octets ≡ first_line octets
take_first [] = refl
take_first (octet ∷ octets) =
    subst (λ ys. take (length ys) (octet ∷ octets) ≡ ys)
    (sym (take_while-cons (λ o. not (o == line_feed)) octet octets))
    (with_octet octet octets (first_line octets) (not (octet == line_feed)) (take_first octets))
