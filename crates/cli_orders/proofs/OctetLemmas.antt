-- Octets that are read and written in several calls.
use Rattle.std.proofs.Common.{◌≡◌, [], ◌∷◌, zero, suc, ◌<◌, ⊎_elim, IfSome, append-nil, ℕ}
use Rattle.std.proofs.Common.{◌+◌, ◌-◌, ◌≤◌, length, subst, List, ◌++◌, Option, Some, None, take}
use Rattle.std.proofs.Common.{drop, refl, sym, ap, ◌∙◌, append_assoc, arith}
use Rattle.std.proofs.lemmas.List.{take_all, take_at, length-drop, length-take-le}
use Rattle.std.proofs.Math.Nat.{eq-or-lt_of_le}
use Rattle.std.specs.Io.KnownBytes.{Appends, Consumes, Keeps, IsAtEnd}
use Rattle.import_text.proofs.FillLemmas.{rest_is, take_more}

-- what was written, and what is written after it
pub appends_more : (a b c : Option (List ℕ)) (i n : ℕ) (octets : List ℕ)
    → Appends a b (take i octets) → Appends b c (take n (drop i octets))
    → Appends a c (take (i + n) octets)
appends_more None b c i n octets p q = tt
appends_more (Some x) None c i n octets p q = absurd p
appends_more (Some x) (Some y) None i n octets p q = absurd q
appends_more (Some x) (Some y) (Some z) i n octets p q =
    q ∙ ap (λ ys. ys ++ take n (drop i octets)) p
    ∙ append_assoc x (take i octets) (take n (drop i octets))
    ∙ ap (λ ys. x ++ ys) (take_more i n octets)

-- ---- writing

-- one more call wrote some of what was left
pub wrote_more : (a b c : Option (List ℕ)) (i n count : ℕ) (octets : List ℕ) → count ≡ i + n
    → i ≤ length octets
    → n ≤ length (take (length octets - i) (drop i octets))
    → Appends a b (take i octets) → Appends b c (take n (take (length octets - i) (drop i octets)))
    → Appends a c (take count octets) × (count ≤ length octets)
wrote_more a b c i n count octets is within fits p q =
    let fits' : n ≤ length octets - i =
    subst (λ (m : ℕ). n ≤ m) (length-drop i octets) (subst (λ (xs : List ℕ). n ≤ length xs)
    (rest_is i octets) fits) in
    let whole : Appends a c (take (i + n) octets) =
    appends_more a b c i n octets p (subst (λ (xs : List ℕ). Appends b c (take n xs))
    (rest_is i octets) q) in (
      subst (λ (m : ℕ). Appends a c (take m octets)) (sym is) whole,
      subst (λ (m : ℕ). m ≤ length octets) (sym is) (omega arith),
    )

-- a call that was interrupted wrote nothing
pub wrote_none : (a b c : Option (List ℕ)) (i count : ℕ) (octets : List ℕ) → count ≡ i
    → i ≤ length octets
    → Appends a b (take i octets) → Keeps b c → Appends a c (take count octets)
    × (count ≤ length octets)
wrote_none a b c i count octets is within p q = (
  subst (λ (m : ℕ). Appends a c (take m octets)) (sym is) (still a b c p q),
  subst (λ (m : ℕ). m ≤ length octets) (sym is) within,
)
  where
    still : (a b c : Option (List ℕ)) → Appends a b (take i octets) → Keeps b c
        → Appends a c (take i octets)
    still None b c p q = tt
    still (Some x) None c p q = absurd p
    still (Some x) (Some y) None p q = absurd q
    still (Some x) (Some y) (Some z) p q = q ∙ p

-- ---- reading

-- what was read until the room was full or the input ended is the front of the input
pub prefix_read : (a b : Option (List ℕ)) (count most : ℕ) (room : List ℕ) → length room ≡ most
    → count ≤ length room → Consumes a b (take count room)
    → (count < length room → IsAtEnd b) → IfSome a (λ input. take count room ≡ take most input)
prefix_read None b count most room len within p end = tt
prefix_read (Some x) None count most room len within p end = absurd p
prefix_read (Some x) (Some y) count most room len within p end =
    let size : length (take count room) ≡ count = length-take-le count room within in
    ⊎_elim
    (λ full.
    let is : count ≡ most = full ∙ len in
    sym (ap (take most) p ∙ take_at (take count room) y most (size ∙ is)))
    (λ less.
    let whole : x ≡ take count room = p ∙ ap (λ ys. take count room ++ ys) (end less)
    ∙ append-nil (take count room) in
    sym whole ∙ sym (take_all most x (subst (λ (m : ℕ). m ≤ most) (sym (ap length whole ∙ size))
    (omega arith))))
    (eq-or-lt_of_le within)

-- a front that is shorter than it may be is the whole
take_short : (most : ℕ) (xs : List ℕ) → length (take most xs) < most → take most xs ≡ xs
take_short zero xs less = absurd (omega (arith, less))
take_short (suc most) [] less = refl
take_short (suc most) (x ∷ xs) less =
    ap (λ rest. x ∷ rest) (take_short most xs (omega (arith, less)))

pub whole_read : (a : Option (List ℕ)) (octets : List ℕ) (most : ℕ) → length octets < most
    → IfSome a (λ input. octets ≡ take most input) → IfSome a (λ input. octets ≡ input)
whole_read None octets most less read = tt
whole_read (Some input) octets most less read =
    read ∙ take_short most input (subst (λ xs. length xs < most) read less)
