-- UTF-16 is cut between whole units that are no pair, and the text is that of both parts.
use Rattle.std.proofs.Common.{◌≡◌, ◌<◌, ◌≤◌, ◌+◌, ◌-◌, ◌*◌, ◌∷◌, ◌++◌, [], ℕ, List, Bool, true}
use Rattle.std.proofs.Common.{false, length, map, take, drop, get_or, refl, sym, ap, subst, ◌∙◌}
use Rattle.std.proofs.Common.{arith, append_assoc}
use Rattle.std.specs.Prelude.{◌&&◌, unwrap_or, if◌then◌else◌, Option, Some}
use Rattle.std.specs.Char.Utf16.{utf16_chars, utf16_lossy_chars, is_high_surrogate}
use Rattle.std.specs.Char.Utf16.{is_low_surrogate, lone_unit_char, surrogate_pair_char}
use Rattle.std.specs.Str.{encode_utf8_all}
use Rattle.std.proofs.lemmas.List.{map-append, append-nil, take_more, drop_more, take-append-drop}
use Rattle.std.proofs.lemmas.List.{length-take-le}
use Rattle.std.proofs.lemmas.Str.{encodes-append}
use Rattle.import_text.specs.Units.{unit_of, units}
use Rattle.import_text.specs.Texts.{utf16_octets}
use Rattle.import_text.specs.internal.Units.{AreUnits, AreApart, StandsAlone}

-- ---- units

units_append : (big : Bool) (front back : List ℕ) → AreUnits front
    → units big (front ++ back) ≡ units big front ++ units big back
unfolding units
units_append big [] back are = refl
units_append big (a ∷ []) back are = absurd are
units_append big (a ∷ b ∷ front) back are =
    ap (λ us. unit_of big a b ∷ us) (units_append big front back are)

are_units : (count : ℕ) (octets : List ℕ) → length octets ≡ count * 2 → AreUnits octets
are_units count [] len = tt
are_units count (a ∷ []) len = absurd (omega (arith, len))
are_units count (a ∷ b ∷ octets) len = are_units (count - 1) octets (omega (arith, len))

-- ---- characters

abbrev pair_or : Bool → ℕ → ℕ → List (Option ℕ) → List (Option ℕ) → List (Option ℕ)
pair_or b u v pair lone = if b then Some (surrogate_pair_char u v) ∷ pair
    else lone_unit_char u ∷ lone

two : (u v : ℕ) (us : List ℕ) → utf16_chars (u ∷ v ∷ us) ≡ pair_or (is_high_surrogate u
    && is_low_surrogate v) u v (utf16_chars us) (utf16_chars (v ∷ us))
unfolding utf16_chars
two u v us = refl

pair_append : (b : Bool) (u v : ℕ) (pair lone pair2 lone2 after : List (Option ℕ))
    → pair2 ≡ pair ++ after → lone2 ≡ lone ++ after → pair_or b u v pair2 lone2 ≡ pair_or b u v pair
    lone ++ after
pair_append true u v pair lone pair2 lone2 after p l =
    ap (λ cs. Some (surrogate_pair_char u v) ∷ cs) p
pair_append false u v pair lone pair2 lone2 after p l = ap (λ cs. lone_unit_char u ∷ cs) l

shorter : (v : ℕ) (us after : List ℕ) → AreApart (v ∷ us) after → AreApart us after
shorter v [] after apart = tt
shorter v (u ∷ us) after apart = apart

chars_append : (us after : List ℕ) → AreApart us after → utf16_chars (us ++ after) ≡ utf16_chars us
    ++ utf16_chars after
unfolding utf16_chars
chars_append [] after apart = refl
chars_append (u ∷ []) [] apart = refl
chars_append (u ∷ []) (v ∷ after) apart = two u v after
    ∙ ap (λ b. pair_or b u v (utf16_chars after) (utf16_chars (v ∷ after))) apart
chars_append (u ∷ v ∷ us) after apart =
    two u v (us ++ after)
    ∙ pair_append (is_high_surrogate u && is_low_surrogate v) u v (utf16_chars us)
    (utf16_chars (v ∷ us)) (utf16_chars (us ++ after)) (utf16_chars (v ∷ us ++ after))
    (utf16_chars after)
    (chars_append us after (shorter v us after apart)) (chars_append (v ∷ us) after apart)
    ∙ ap (λ cs. cs ++ utf16_chars after) (sym (two u v us))

text_append : (big : Bool) (front back : List ℕ) → AreUnits front
    → AreApart (units big front) (units big back) → utf16_octets big (front ++ back)
    ≡ utf16_octets big front ++ utf16_octets big back
text_append big front back are apart =
    ap (λ us. encode_utf8_all (utf16_lossy_chars us)) (units_append big front back are)
    ∙ ap (λ cs. encode_utf8_all (map (λ o. unwrap_or o 0xFFFD) cs)) (chars_append (units big front)
    (units big back) apart)
    ∙ ap encode_utf8_all (map-append (λ o. unwrap_or o 0xFFFD) (utf16_chars (units big front))
    (utf16_chars (units big back)))
    ∙ encodes-append (utf16_lossy_chars (units big front)) (utf16_lossy_chars (units big back))

-- ---- what keeps units apart

and_false : (a b : Bool) → b ≡ false → (a && b) ≡ false
and_false true b e = e
and_false false b e = refl

false_and : (a b : Bool) → a ≡ false → (a && b) ≡ false
false_and true b e = cc e
false_and false b e = refl

-- a first half can't follow another
high_is_not_low : (u : ℕ) → is_high_surrogate u ≡ true → is_low_surrogate u ≡ false
high_is_not_low u high = grind (arith, high)

before_high : (us : List ℕ) (u : ℕ) (after : List ℕ) → is_high_surrogate u ≡ true
    → AreApart us (u ∷ after)
before_high [] u after high = tt
before_high (v ∷ []) u after high =
    and_false (is_high_surrogate v) (is_low_surrogate u) (high_is_not_low u high)
before_high (v ∷ w ∷ us) u after high = before_high (w ∷ us) u after high

alone : (u : ℕ) (after : List ℕ) → is_high_surrogate u ≡ false → StandsAlone u after
alone u [] not_high = tt
alone u (v ∷ after) not_high = false_and (is_high_surrogate u) (is_low_surrogate v) not_high

after_other : (us : List ℕ) (u : ℕ) (after : List ℕ) → is_high_surrogate u ≡ false
    → AreApart (us ++ u ∷ []) after
after_other [] u after not_high = alone u after not_high
after_other (v ∷ []) u after not_high = alone u after not_high
after_other (v ∷ w ∷ us) u after not_high = after_other (w ∷ us) u after not_high

-- ---- cuts

take_units : (count : ℕ) (octets : List ℕ) → count * 2 ≤ length octets
    → AreUnits (take (count * 2) octets)
take_units count octets within = are_units count (take (count * 2) octets)
    (length-take-le (count * 2) octets within)

joins : (big : Bool) (octets more : List ℕ) (len : ℕ) → AreUnits (take len octets)
    → AreApart (units big (take len octets)) (units big (drop len octets ++ more))
    → utf16_octets big (octets ++ more) ≡ utf16_octets big (take len octets) ++ utf16_octets big
    (drop len octets ++ more)
joins big octets more len are apart =
    ap (λ os. utf16_octets big (os ++ more)) (sym (take-append-drop len octets))
    ∙ ap (utf16_octets big) (append_assoc (take len octets) (drop len octets) more)
    ∙ text_append big (take len octets) (drop len octets ++ more) are apart

module _ (big : Bool) (octets : List ℕ) (count : ℕ) (within : count * 2 + 1 < length octets) (a b :
    ℕ) (a_is : a ≡ get_or octets (count * 2) 0) (b_is : b ≡ get_or octets (count * 2 + 1) 0) where
  drop_two : drop (count * 2) octets ≡ a ∷ b ∷ drop (count * 2 + 1 + 1) octets
  drop_two =
      drop_more octets (count * 2) 0 (omega (arith, within))
      ∙ ap (λ x. x ∷ drop (count * 2 + 1) octets) (sym a_is)
      ∙ ap (λ xs. a ∷ xs) (drop_more octets (count * 2 + 1) 0 within
      ∙ ap (λ x. x ∷ drop (count * 2 + 1 + 1) octets) (sym b_is))

  take_two : take (count * 2 + 1 + 1) octets ≡ take (count * 2) octets ++ a ∷ b ∷ []
  take_two =
      take_more octets (count * 2 + 1) 0 within
      ∙ ap (λ xs. xs ++ get_or octets (count * 2 + 1) 0 ∷ []) (take_more octets (count * 2) 0
      (omega (arith, within)))
      ∙ append_assoc (take (count * 2) octets) (get_or octets (count * 2) 0 ∷ [])
      (get_or octets (count * 2 + 1) 0 ∷ [])
      ∙ ap (λ x. take (count * 2) octets ++ x ∷ get_or octets (count * 2 + 1) 0 ∷ []) (sym a_is)
      ∙ ap (λ x. take (count * 2) octets ++ a ∷ x ∷ []) (sym b_is)

  unit_first : (xs : List ℕ) → units big (a ∷ b ∷ xs) ≡ unit_of big a b ∷ units big xs
  unfolding units
  unit_first xs = refl

  front : AreUnits (take (count * 2) octets)
  front = take_units count octets (omega (arith, within))

  -- before a first half
  pub cut_before : is_high_surrogate (unit_of big a b) ≡ true → (more : List ℕ)
      → utf16_octets big (octets ++ more) ≡ utf16_octets big (take (count * 2) octets)
      ++ utf16_octets big (drop (count * 2) octets ++ more)
  cut_before high more = joins big octets more (count * 2) front
      (subst (AreApart (units big (take (count * 2) octets)))
      (sym (ap (λ xs. units big (xs ++ more)) drop_two
      ∙ unit_first (drop (count * 2 + 1 + 1) octets ++ more)))
      (before_high (units big (take (count * 2) octets)) (unit_of big a b)
      (units big (drop (count * 2 + 1 + 1) octets ++ more)) high))

  unit_alone : units big (a ∷ b ∷ []) ≡ unit_of big a b ∷ []
  unfolding units
  unit_alone = refl

  unit_last : units big (take (count * 2 + 1 + 1) octets) ≡ units big (take (count * 2) octets)
      ++ unit_of big a b ∷ []
  unit_last = ap (units big) take_two ∙ units_append big (take (count * 2) octets) (a ∷ b ∷ [])
      front ∙ ap (λ us. units big (take (count * 2) octets) ++ us) unit_alone

  -- after any other unit
  pub cut_after : is_high_surrogate (unit_of big a b) ≡ false → (more : List ℕ)
      → utf16_octets big (octets ++ more) ≡ utf16_octets big (take (count * 2 + 1 + 1) octets)
      ++ utf16_octets big (drop (count * 2 + 1 + 1) octets ++ more)
  cut_after not_high more = joins big octets more (count * 2 + 1 + 1)
      (are_units (count + 1) (take (count * 2 + 1 + 1) octets) (length-take-le (count * 2 + 1 + 1)
      octets (omega (arith, within)) ∙ omega arith))
      (subst (λ us. AreApart us (units big (drop (count * 2 + 1 + 1) octets ++ more)))
      (sym unit_last)
      (after_other (units big (take (count * 2) octets)) (unit_of big a b)
      (units big (drop (count * 2 + 1 + 1) octets ++ more)) not_high))

-- nothing is cut off
pub cut_none : (big : Bool) (octets more : List ℕ) → utf16_octets big (octets ++ more)
    ≡ utf16_octets big (take 0 octets) ++ utf16_octets big (drop 0 octets ++ more)
unfolding units utf16_chars
cut_none big octets more = refl

-- all is cut off
pub cut_all : (big : Bool) (octets : List ℕ) → utf16_octets big (octets ++ [])
    ≡ utf16_octets big octets ++ utf16_octets big []
unfolding units utf16_chars
cut_all big octets = ap (utf16_octets big) (append-nil octets)
    ∙ sym (append-nil (utf16_octets big octets))
