-- Octets that are read in several calls.
use Rattle.std.proofs.Common.{rules, ◌≡◌, ℕ, ◌+◌, ◌-◌, ◌≤◌, length, subst, List, ◌++◌, Option, Some}
use Rattle.std.proofs.Common.{None, take, drop, refl, sym, ap, ◌∙◌, append_assoc, arith}
use Rattle.std.proofs.lemmas.List.{take-append-drop, drop-take, take-take, take_all, length-drop}
use Rattle.std.proofs.lemmas.List.{length-take-le}
use Rattle.std.proofs.lemmas.Slice.{take-put_mid, take-put_mid_below, overwrites}
use Rattle.std.proofs.Math.Seq.{take-append-add}
use borrow.Rule.Slice.PartMut.{put_mid}
use Rattle.std.specs.Io.KnownBytes.{Consumes, Keeps}

pub take_more : (i n : ℕ) (xs : List ℕ) → take i xs ++ take n (drop i xs) ≡ take (i + n) xs
take_more i n xs =
    ap (λ ys. ys ++ take n (drop i xs)) (sym (take-take i (i + n) xs (omega arith)))
    ∙ ap (λ ys. take i (take (i + n) xs) ++ ys) (sym (drop-take i n xs))
    ∙ take-append-drop i (take (i + n) xs)

-- what was read, and what is read after it
pub consumes_more : (a b c : Option (List ℕ)) (front more : List ℕ) → Consumes a b front
    → Consumes b c more → Consumes a c (front ++ more)
consumes_more None b c front more p q = tt
consumes_more (Some x) None c front more p q = absurd p
consumes_more (Some x) (Some y) None front more p q = absurd q
consumes_more (Some x) (Some y) (Some z) front more p q = p ∙ ap (λ ys. front ++ ys) q
    ∙ sym (append_assoc front more z)

pub rest_is : (i : ℕ) (xs : List ℕ) → take (length xs - i) (drop i xs) ≡ drop i xs
rest_is i xs = take_all (length xs - i) (drop i xs) (subst (λ n. n ≤ length xs - i)
    (sym (length-drop i xs)) (omega arith))

-- ---- reading

-- the front of a room whose rest was written over
pub front_of_room : (i n : ℕ) (room rest : List ℕ) → i ≤ length room → n ≤ length rest
    → take (i + n) (put_mid i (length room - i) room rest) ≡ take i room ++ take n rest
front_of_room i n room rest within fits =
    sym (take-take (i + n) (i + length rest) _ (omega arith))
    ∙ ap (take (i + n)) (take-put_mid i (length room - i) room rest (i + length rest) refl within)
    ∙ ap (λ m. take (m + n) (take i room ++ rest)) (sym (length-take-le i room within))
    ∙ take-append-add (take i room) rest n

pub length_kept : (i : ℕ) (room rest : List ℕ) → i ≤ length room → length rest ≡ length room - i
    → length (put_mid i (length room - i) room rest) ≡ length room
length_kept i room rest within fills = search (rules, overwrites)

-- one more call read some of what is left
pub read_more : (a b c : Option (List ℕ)) (i n count size : ℕ) (room rest : List ℕ) → count ≡ i + n
    → i ≤ length room → length rest ≡ length room - i → length room ≡ size
    → n ≤ length rest → Consumes a b (take i room) → Consumes b c (take n rest)
    → Consumes a c (take count (put_mid i (length room - i) room rest))
    × (count ≤ length (put_mid i (length room - i) room rest))
    × (length (put_mid i (length room - i) room rest) ≡ size)
read_more a b c i n count size room rest is within fills whole fits p q =
    let len = length_kept i room rest within fills in (
      subst (Consumes a c) (sym (ap (λ m. take m (put_mid i (length room - i) room rest)) is
          ∙ front_of_room i n room rest within fits)) (consumes_more a b c (take i room)
          (take n rest) p q),
      subst (λ (m : ℕ). count ≤ m) (sym len) (omega arith),
      len ∙ whole,
    )

-- a call that was interrupted read nothing
pub read_none : (a b c : Option (List ℕ)) (i count size : ℕ) (room rest : List ℕ) → count ≡ i
    → i ≤ length room → length rest ≡ length room - i → length room ≡ size
    → Consumes a b (take i room) → Keeps b c
    → Consumes a c (take count (put_mid i (length room - i) room rest))
    × (count ≤ length (put_mid i (length room - i) room rest))
    × (length (put_mid i (length room - i) room rest) ≡ size)
read_none a b c i count size room rest is within fills whole p q =
    let len = length_kept i room rest within fills in (
      subst (Consumes a c) (sym (ap (λ m. take m (put_mid i (length room - i) room rest)) is
          ∙ take-put_mid_below i (length room - i) room rest i (omega arith) within))
          (still a b c p q),
      subst (λ (m : ℕ). count ≤ m) (sym len) (omega arith),
      len ∙ whole,
    )
  where
    still : (a b c : Option (List ℕ)) → Consumes a b (take i room) → Keeps b c
        → Consumes a c (take i room)
    still None b c p q = tt
    still (Some x) None c p q = absurd p
    still (Some x) (Some y) None p q = absurd q
    still (Some x) (Some y) (Some z) p q = p ∙ ap (λ ys. take i room ++ ys) (sym q)
