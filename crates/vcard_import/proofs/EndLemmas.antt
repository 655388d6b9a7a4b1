-- The octets up to the END of a card, read one by one.
use Rattle.std.proofs.Common.{◌≡◌, ◌+◌, ◌∙◌, ℕ, List, [], ◌∷◌, true, false, refl, ap}
use Rattle.vcard_import.specs.Ends.{is_before_end, len_without_end}

one_here : (octet : ℕ) (tail : List ℕ) → is_before_end octet tail ≡ true
    → len_without_end (octet ∷ tail) ≡ 1
unfolding len_without_end
one_here octet tail e = rw e refl

one_later : (octet : ℕ) (tail : List ℕ) → is_before_end octet tail ≡ false
    → len_without_end (octet ∷ tail) ≡ len_without_end tail + 1
unfolding len_without_end
one_later octet tail e = rw e refl

-- the card ends after the first of the octets
pub ends_here : (rest : List ℕ) (octet : ℕ) (tail : List ℕ) → rest ≡ octet ∷ tail
    → is_before_end octet tail ≡ true → len_without_end rest ≡ 1
ends_here rest octet tail is e = ap len_without_end is ∙ one_here octet tail e

-- it doesn't
pub ends_later : (rest : List ℕ) (octet : ℕ) (tail : List ℕ) → rest ≡ octet ∷ tail
    → is_before_end octet tail ≡ false → len_without_end rest ≡ len_without_end tail + 1
ends_later rest octet tail is e = ap len_without_end is ∙ one_later octet tail e

pub none_left : len_without_end [] ≡ 0
unfolding len_without_end
none_left = refl
