-- The octets before the first one of a kind.
use Rattle.std.proofs.Common.{◌≡◌, ◌==◌, ◌∷◌, [], ℕ, Bool, true, false, List, length, take, not}
use Rattle.std.proofs.Common.{cond, refl, sym, ap, subst}
use Rattle.std.proofs.lemmas.List.Sums.{take_while-cons}
use Rattle.vcard_values.specs.Cuts.{before}

with_octet : (octet : ℕ) (octets front : List ℕ) (b : Bool) → take (length front) octets ≡ front
    → take (length (cond b (octet ∷ front) [])) (octet ∷ octets) ≡ cond b (octet ∷ front) []
with_octet octet octets front true e = ap (λ ys. octet ∷ ys) e
with_octet octet octets front false e = refl

pub take_before : (mark : ℕ) (octets : List ℕ) → take (length (before mark octets)) octets
    ≡ before mark octets
take_before mark [] = refl
take_before mark (octet ∷ octets) =
    subst (λ ys. take (length ys) (octet ∷ octets) ≡ ys)
    (sym (take_while-cons (λ o. not (o == mark)) octet octets))
    (with_octet octet octets (before mark octets) (not (octet == mark)) (take_before mark octets))
