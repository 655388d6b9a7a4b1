-- The leading octets of a class, and where a text may be split after them.
use Rattle.std.proofs.Common.{◌≡◌, ℕ, ◌<◌, Bool, true, false, cond, ◌==◌, nat_lt, IsTrue, List, []}
use Rattle.std.proofs.Common.{◌∷◌, ◌++◌, length, drop, take_while, IsUtf8, IsCharBoundary, Option}
use Rattle.std.proofs.Common.{Some, None, slice_get, option_copied, inl, inr, refl, sym, ap, subst}
use Rattle.std.proofs.Common.{◌∙◌, ⊎_elim, arith, take-append-drop, drop_at}
use Rattle.std.specs.List.{prefix_len, list_all}
use Rattle.std.specs.Str.{IsAscii}
use Rattle.std.proofs.lemmas.Bool.{cond-true, cond-false, cases_lt, or_cases, and_parts, eqb-true}
use Rattle.std.proofs.lemmas.Bool.{ltb-true, both_ways}
use Rattle.std.proofs.lemmas.Bool.Decides.{nat_tests}
use Rattle.std.proofs.lemmas.List.Sums.{take_while-cons, prefix_len-le-length, prefix_len_stops}
use Rattle.std.proofs.lemmas.List.Folds.{length-prefix_len}
use Rattle.std.proofs.lemmas.Option.{same_Some}
use Rattle.std.proofs.lemmas.Str.{IsUtf8-from_ascii, IsCharBoundary-from_take}
use Rattle.std.proofs.lemmas.Str.{IsCharBoundary-before_ascii, IsCharBoundary-after_ascii}
use Rattle.std.proofs.lemmas.Str.{IsCharBoundary-end}
use Rattle.std.proofs.lemmas.Str.Ascii.{IsAscii-nil, IsAscii-cons}
use denote.Bor.{Bor}
use Rattle.vcard_lines.specs.Grammar.{AllInClass, is_name_octet, is_value_octet}
use Rattle.vcard_lines.specs.Parsing.{leading, after_leading}
use Rattle.vcard_lines.specs.LogicalLines.{continues}

-- the text doesn't begin with an octet of the class
abbrev pub Stops : (ℕ → Bool) → List ℕ → Type 0
Stops class [] = Unit {0}
Stops class (c ∷ cs) = class c ≡ false

module _ (class : ℕ → Bool) where
  pub front_is_of : (text : List ℕ) → AllInClass class (leading class text)
  front_is_of [] = tt
  front_is_of (b ∷ bs) = subst (AllInClass class) (sym (take_while-cons class b bs))
      (elim (class b) as (λ t. class b ≡ t → AllInClass class (cond t (b ∷ take_while class bs) []))
      [ true ↦ λ e. (e, front_is_of bs) | false ↦ λ e. tt ] refl)

  pub front-append : (octets rest : List ℕ) → AllInClass class octets → Stops class rest
      → leading class (octets ++ rest) ≡ octets
  front-append [] [] all stops = refl
  front-append [] (c ∷ cs) all stops = take_while-cons class c cs ∙ cond-false _ _ _ stops
  front-append (x ∷ octets) rest all stops = take_while-cons class x (octets ++ rest)
      ∙ cond-true _ _ _ all.0 ∙ ap (λ t. x ∷ t) (front-append octets rest all.1 stops)

  pub behind-append : (octets rest : List ℕ) → AllInClass class octets → Stops class rest
      → after_leading class (octets ++ rest) ≡ rest
  behind-append octets rest all stops =
      ap (λ t. drop (length t) (octets ++ rest)) (front-append octets rest all stops)
      ∙ drop_at octets rest (length octets) refl

  pub leading_and_rest : (text : List ℕ) → text ≡ leading class text ++ after_leading class text
  leading_and_rest text = sym (ap (λ n. take_while class text ++ drop n text)
      (length-prefix_len class text) ∙ take-append-drop (prefix_len class text) text)

-- ---- a test of each octet

pub of_class : (class : ℕ → Bool) (octets : List ℕ) → list_all class octets ≡ true
    → AllInClass class octets
of_class class [] e = tt
of_class class (x ∷ xs) e = let parts = and_parts (class x) (list_all class xs) e in
    (parts.0, of_class class xs parts.1)

pub all_of_class : (class : ℕ → Bool) (octets : List ℕ) → AllInClass class octets
    → list_all class octets ≡ true
all_of_class class [] a = refl
all_of_class class (x ∷ xs) a = rw (a.0, all_of_class class xs a.1) refl

is_ascii : (octets : List ℕ) → list_all (λ b. nat_lt b 128) octets ≡ true → IsAscii octets
is_ascii [] e = IsAscii-nil
is_ascii (b ∷ bs) e = let parts = and_parts (nat_lt b 128) (list_all (λ b. nat_lt b 128) bs) e in
    IsAscii-cons b bs (ltb-true b 128 parts.0) (is_ascii bs parts.1)

-- octets below 128 are text
pub ascii_utf8 : (octets : List ℕ) → list_all (λ b. nat_lt b 128) octets ≡ true → IsUtf8 octets
ascii_utf8 octets e = IsUtf8-from_ascii octets (is_ascii octets e)

-- ---- where a text may be cut

pub name_is_ascii : (octets : List ℕ) → AllInClass is_name_octet octets → IsAscii octets
name_is_ascii [] all = IsAscii-nil
name_is_ascii (b ∷ bs) all = IsAscii-cons b bs (below b all.0) (name_is_ascii bs all.1)
  where
    below : (b : ℕ) → is_name_octet b ≡ true → b < 128
    below b e = grind (arith, nat_tests)

pub boundary_after_name : (text : List ℕ) → IsUtf8 text
    → IsCharBoundary text (length (take_while is_name_octet text))
boundary_after_name text u = subst (IsCharBoundary text)
    (sym (length-prefix_len is_name_octet text))
    (IsCharBoundary-from_take text (prefix_len is_name_octet text) u
    (prefix_len-le-length is_name_octet text)
    (IsUtf8-from_ascii _ (name_is_ascii _ (front_is_of is_name_octet text))))

-- what ends a value is ASCII
ends_value_below : (quoted : Bool) (b : ℕ) → is_value_octet quoted b ≡ false → b < 128
ends_value_below true b e = grind (arith, nat_tests)
ends_value_below false b e = grind (arith, nat_tests)

boundary_after : (class : ℕ → Bool) → ((b : ℕ) → class b ≡ false → b < 128) → (text : List ℕ)
    → IsUtf8 text → IsCharBoundary text (length (take_while class text))
boundary_after class ends text u = subst (IsCharBoundary text) (sym (length-prefix_len class text))
    (elim (cases_lt (prefix_len class text) (length text)) [
      | inl lt ↦ IsCharBoundary-before_ascii text (prefix_len class text) lt
          (ends _ (prefix_len_stops class text 0 lt))
      | inr ge ↦ let all : length text ≡ prefix_len class text =
          omega (arith, prefix_len-le-length class text) in
          subst (IsCharBoundary text) all (IsCharBoundary-end text)
    ])

pub boundary_after_value : (quoted : Bool) (text : List ℕ) → IsUtf8 text
    → IsCharBoundary text (length (take_while (is_value_octet quoted) text))
boundary_after_value quoted text u =
    boundary_after (is_value_octet quoted) (ends_value_below quoted) text u

-- after a leading ASCII octet
pub boundary_after_octet : (text octets : List ℕ) (octet : ℕ) (got : Option (Bor ℕ)) (first : Bor ℕ)
    → IsUtf8 text → octet < 128 → octets ≡ text → option_copied got ≡ slice_get octets 0
    → got ≡ Some first → first.now ≡ octet → IsCharBoundary text 1
boundary_after_octet [] octets octet got first u low same value is here =
    absurd (let none : Some first.now ≡ None = sym (ap option_copied is) ∙ value
    ∙ ap (λ o. slice_get o 0) same in cc)
boundary_after_octet (b ∷ bs) octets octet got first u low same value is here =
    let at_front : first.now ≡ b = same_Some _ _ (sym (ap option_copied is) ∙ value
    ∙ ap (λ o. slice_get o 0) same) in
    IsCharBoundary-after_ascii (b ∷ bs) 0 u (omega arith) (omega arith)

-- after the leading space or tab of a continuation line
pub boundary_after_space : (piece : List ℕ) → IsUtf8 piece → IsTrue (continues piece)
    → IsCharBoundary piece 1
boundary_after_space [] u c = absurd (both_ways false refl c)
boundary_after_space (b ∷ bs) u c =
    let ascii : b < 128 = ⊎_elim (λ e. let is = eqb-true b 32 e in
    omega arith) (λ e. let is = eqb-true b 9 e in
    omega arith) (or_cases (b == 32) (b == 9) c) in
    IsCharBoundary-after_ascii (b ∷ bs) 0 u (omega arith) ascii
