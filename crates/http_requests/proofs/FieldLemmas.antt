-- Fields one by one.
use Rattle.std.proofs.Common.{◌≡◌, ◌∙◌, ◌≤◌, ◌<◌, ◌+◌, ◌*◌, ◌^◌, ℕ, List, [], ◌∷◌, ◌++◌, length}
use Rattle.std.proofs.Common.{refl, sym, ap, subst, Bool, true, false, arith, take, drop, map}
use Rattle.std.proofs.Common.{get_or, Some, None, ◌||◌, eqb, ◌-◌, ◌↔◌, IsTrue, nat_eq, nat_lt, zero}
use Rattle.std.proofs.Common.{suc, inl, inr, lt-ltb}
use Rattle.std.specs.List.{find, list_any, slice_split, list_all}
use Rattle.std.proofs.lemmas.List.{take_more, map-append, take-append-drop}
use Rattle.std.proofs.lemmas.List.Folds.{find-append}
use Rattle.std.proofs.lemmas.List.Splits.{slice_split_first}
use Rattle.std.proofs.lemmas.List.Quantifiers.{position-Some}
use Rattle.std.proofs.lemmas.List.Sums.{position_or_len_is}
use Rattle.std.proofs.lemmas.Int.Digits.{digits_value_more}
use Rattle.std.proofs.lemmas.Str.{digit_value_digit}
use Rattle.std.proofs.lemmas.Grind.{pow_more}
use Rattle.std.proofs.Math.Nat.{pow-le-pow_right}
use Rattle.std.specs.List.{position, position_or_len, onto_first}
use Rattle.std.specs.Cmp.Lexicographic.{pointwise, same_text, other_text}
use Rattle.std.proofs.lemmas.Bool.{cases_Bool, cases_lt, false_from_ne_true}
use Rattle.std.proofs.lemmas.List.Folds.{list_all_at}
use Rattle.std.proofs.lemmas.Bool.Decides.{nat_tests}
use Rattle.std.specs.Char.{is_ascii_digit, digit_value}
use Rattle.std.specs.Int.{IsInRange}
use Rattle.std.specs.Str.Parse.{digits_value}
use Rattle.httparse.specs.declared.spans.HeaderSpan.{HeaderSpan}
use Rattle.base_types.specs.Octets.{comma}
use Rattle.http_requests.specs.Fields.{is_close, has_close}
use Rattle.base_types.proofs.BoolLemmas.{or_false}

pub map_more : {A B : Type 0} (f : A → B) (xs : List A) (i : ℕ) (d : A) → i < length xs
    → map f (take (i + 1) xs) ≡ map f (take i xs) ++ f (get_or xs i d) ∷ []
map_more f xs i d below = ap (map f) (take_more xs i d below)
    ∙ map-append f (take i xs) (get_or xs i d ∷ [])

pub find_no : {A B : Type 0} (p : B → Bool) (f : A → B) (xs : List A) (i : ℕ) (d : A)
    → i < length xs → find p (map f (take i xs)) ≡ None → p (f (get_or xs i d)) ≡ false
    → find p (map f (take (i + 1) xs)) ≡ None
find_no p f xs i d below none is =
    ap (find p) (map_more f xs i d below)
    ∙ find-append p (map f (take i xs)) (f (get_or xs i d) ∷ []) ∙ rw (none, is) refl

pub find_yes : {A B : Type 0} (p : B → Bool) (f : A → B) (xs : List A) (i : ℕ) (d : A)
    → i < length xs → find p (map f (take i xs)) ≡ None → p (f (get_or xs i d)) ≡ true
    → find p (map f xs) ≡ Some (f (get_or xs i d))
find_yes p f xs i d below none is =
    ap (λ t. find p (map f t)) (sym (take-append-drop (i + 1) xs))
    ∙ ap (find p) (map-append f (take (i + 1) xs) (drop (i + 1) xs)
    ∙ ap (λ t. t ++ map f (drop (i + 1) xs)) (map_more f xs i d below))
    ∙ find-append p (map f (take i xs) ++ f (get_or xs i d) ∷ []) (map f (drop (i + 1) xs))
    ∙ rw (find-append p (map f (take i xs)) (f (get_or xs i d) ∷ []), none, is) refl

abbrev pub is_comma : ℕ → Bool
is_comma b = eqb b comma

pub split_at_comma : (v : List ℕ) (i : ℕ) → position is_comma v ≡ Some i
    → slice_split is_comma v ≡ take i v ∷ slice_split is_comma (drop (i + 1) v)
split_at_comma v i at =
    let found = position-Some is_comma v i 0 at in
    let is : position_or_len is_comma v ≡ i =
    position_or_len_is is_comma v i 0 (omega (arith, found.0)) found.2 (λ _. found.1) in
    subst (λ k. slice_split is_comma v ≡ take k v ∷ slice_split is_comma (drop (k + 1) v)) is
    (slice_split_first is_comma v 0 (omega (arith, is, found.0)))

pub close_here : (v : List ℕ) (i : ℕ) → position is_comma v ≡ Some i → is_close (take i v) ≡ true
    → has_close v ≡ true
close_here v i at is = ap (list_any is_close) (split_at_comma v i at) ∙ rw is refl

pub close_later : (v : List ℕ) (i : ℕ) → position is_comma v ≡ Some i → is_close (take i v) ≡ false
    → has_close v ≡ has_close (drop (i + 1) v)
close_later v i at is = ap (list_any is_close) (split_at_comma v i at) ∙ rw is refl

pub any_true : (b : Bool) → (b || true) ≡ true
any_true true = refl
any_true false = refl

pub split_whole : (v : List ℕ) → length v ≤ position_or_len is_comma v
    → slice_split is_comma v ≡ v ∷ []
split_whole [] le = refl
split_whole (x ∷ xs) le = elim (cases_Bool (is_comma x)) [
  | inl y ↦ let e = rw y at le in absurd (omega arith)
  | inr n ↦ let e = rw n at le in rw n (ap (onto_first x) (split_whole xs (omega arith)))
]

pub close_none : (v : List ℕ) → position is_comma v ≡ None → has_close v ≡ is_close v
close_none v none =
    let far : length v ≤ position_or_len is_comma v =
    elim (cases_lt (position_or_len is_comma v) (length v)) [
      | inr le ↦ le
      | inl lt ↦ let e : nat_lt (position_or_len is_comma v) (length v) ≡ true = lt-ltb _ _ lt in
          let f = rw e at none in cc f
    ] in
    ap (list_any is_close) (split_whole v far) ∙ or_false (is_close v)

pub any_yes : {A B : Type 0} (p : B → Bool) (f : A → B) (xs : List A) (i : ℕ) (d : A)
    → i < length xs → p (f (get_or xs i d)) ≡ true → list_any p (map f xs) ≡ true
any_yes p f [] i d below is = absurd (omega arith)
any_yes p f (x ∷ xs) zero d below is = rw is refl
any_yes p f (x ∷ xs) (suc i) d below is =
    rw (any_yes p f xs i d (omega arith) is) (any_true (p (f x)))

pub same_word : (r : Bool) (a b : List ℕ) → (IsTrue r ↔ (a ≡ b)) → r ≡ pointwise nat_eq a b
same_word r a b iff = elim (cases_Bool (pointwise nat_eq a b)) [
  | inl y ↦ iff.1 (same_text a b (sym y)) ∙ sym y
  | inr n ↦ false_from_ne_true r (λ t. other_text a b (sym n) (iff.0 t)) ∙ sym n
]

pub in_range : (c : ℕ) → is_ascii_digit c ≡ true → IsInRange 48 57 c
in_range c is = grind (arith, nat_tests)

pub digit_at : (v : List ℕ) (i : ℕ) → list_all is_ascii_digit v ≡ true → i < length v
    → IsInRange 48 57 (get_or v i 0)
digit_at v i all below =
    elim (cases_Bool (is_ascii_digit (get_or v i 0))) [
      | inl is ↦ in_range (get_or v i 0) is
      | inr no_digit ↦ let wrong = list_all_at is_ascii_digit v i 0 below no_digit in
          cc (all, wrong)
    ]

pub pow_bound : (i : ℕ) → i ≤ 15 → 10 ^ i ≤ 1000000000000000
pow_bound i le = pow-le-pow_right {n = 10} (omega arith) {i = i} {j = 15} le

pub number_more : (v : List ℕ) (i n : ℕ) → list_all is_ascii_digit v ≡ true → i < length v
    → n ≡ digits_value 10 (take i v)
    → n * 10 + (get_or v i 0 - 48) ≡ digits_value 10 (take (i + 1) v)
number_more v i n all below is =
    let d = digit_value_digit (get_or v i 0) (digit_at v i all below) in
    let e : get_or v i 0 - 48 ≡ digit_value (get_or v i 0) = omega (arith, d) in
    let step = digits_value_more 10 v i below in
    ap (λ k. n * 10 + k) e ∙ ap (λ k. k * 10 + digit_value (get_or v i 0)) is ∙ sym step

pub number_small : (v : List ℕ) (i n : ℕ) → list_all is_ascii_digit v ≡ true → i < length v
    → n < 10 ^ i → n * 10 + (get_or v i 0 - 48) < 10 ^ (i + 1)
number_small v i n all below small =
    let range = digit_at v i all below in
    let more : 10 ^ (i + 1) ≡ 10 ^ i * 10 = pow_more 10 i in
    omega (arith, range, more, small)

-- what the code reads past the end
abbrev pub blank_field : HeaderSpan
blank_field = record { name = record { start = 0; end = 0 }; value = record { start = 0; end = 0 } }
