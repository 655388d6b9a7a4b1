-- Lists that are filtered, and the least of some numbers.
use Rattle.std.proofs.Common.{◌≡◌, ℕ, ◌≤◌, min, ◌⊎◌, inl, inr, Bool, true, false, cond, ◌&&◌, List}
use Rattle.std.proofs.Common.{[], ◌∷◌, length, filter, Option, Some, None, refl, sym, ap, ◌∙◌}
use Rattle.std.proofs.Common.{⊎_elim, arith}
use Rattle.std.specs.List.{AllByRecursion}
use Rattle.std.specs.Option.{option_map_or}
use Rattle.std.proofs.Math.Nat.{min-eq_left, min-eq_right}
use Rattle.std.proofs.lemmas.Bool.{cases_Bool, cases_lt, cond-true, cond-false}
use Rattle.std.proofs.lemmas.Option.{same_Some}
use Rattle.book_model.specs.BookChanges.{least}

module _ {X : Type 0} where
  -- those that pass two tests
  pub filter_both : (p q : X → Bool) (xs : List X)
      → filter p (filter q xs) ≡ filter (λ x. q x && p x) xs
  filter_both p q [] = refl
  filter_both p q (x ∷ xs) = elim (q x) as (λ b. filter p (cond b (x ∷ filter q xs) (filter q xs))
      ≡ cond (b && p x) (x ∷ filter (λ v. q v && p v) xs) (filter (λ v. q v && p v) xs)) [
        | true ↦ ap (λ t. cond (p x) (x ∷ t) t) (filter_both p q xs)
        | false ↦ filter_both p q xs
      ]

  -- the same test
  pub filter_alike : (p q : X → Bool) → ((x : X) → p x ≡ q x) → (xs : List X)
      → filter p xs ≡ filter q xs
  filter_alike p q same [] = refl
  filter_alike p q same (x ∷ xs) = ap (λ b. cond b (x ∷ filter p xs) (filter p xs)) (same x)
      ∙ ap (λ t. cond (q x) (x ∷ t) t) (filter_alike p q same xs)

  -- no more pass a harder test
  pub filter_fewer : (p q : X → Bool) → ((x : X) → p x ≡ true → q x ≡ true) → (xs : List X)
      → length (filter p xs) ≤ length (filter q xs)
  filter_fewer p q harder [] = omega arith
  filter_fewer p q harder (x ∷ xs) =
      let rest = filter_fewer p q harder xs in
      ⊎_elim
      (λ yes.
      let a = ap length (cond-true (p x) (x ∷ filter p xs) (filter p xs) yes) in
      let b = ap length (cond-true (q x) (x ∷ filter q xs) (filter q xs) (harder x yes)) in
      omega (arith, rest, a, b))
      (λ no.
      let a = ap length (cond-false (p x) (x ∷ filter p xs) (filter p xs) no) in
      elim (q x) as (λ b. length (filter p (x ∷ xs)) ≤ length
      (cond b (x ∷ filter q xs) (filter q xs))) [
        | true ↦ omega (arith, rest, a)
        | false ↦
            omega (arith, rest, a)
      ])
      (cases_Bool (p x))

  pub filter-le : (p : X → Bool) (xs : List X) → length (filter p xs) ≤ length xs
  filter-le p [] = omega arith
  filter-le p (x ∷ xs) =
      let rest = filter-le p xs in
      elim (p x) as (λ b. length (cond b (x ∷ filter p xs) (filter p xs)) ≤ length (x ∷ xs))
      [ true ↦ omega (arith, rest) | false ↦ omega (arith, rest) ]

  -- where none pass, none are left
  pub filter_none : (p : X → Bool) → ((x : X) → p x ≡ false) → (xs : List X) → filter p xs ≡ []
  filter_none p none [] = refl
  filter_none p none (x ∷ xs) = cond-false (p x) (x ∷ filter p xs) (filter p xs) (none x)
      ∙ filter_none p none xs

  -- where all pass, all are left
  pub filter_all : (p : X → Bool) (xs : List X) → AllByRecursion (λ x. p x ≡ true) xs
      → filter p xs ≡ xs
  filter_all p [] a = refl
  filter_all p (x ∷ xs) a = cond-true (p x) (x ∷ filter p xs) (filter p xs) a.0
      ∙ ap (λ t. x ∷ t) (filter_all p xs a.1)

  pub all_weaker : (P Q : X → Type 0) → ((x : X) → P x → Q x) → (xs : List X) → AllByRecursion P xs
      → AllByRecursion Q xs
  all_weaker P Q weaker [] a = tt
  all_weaker P Q weaker (x ∷ xs) a = (weaker x a.0, all_weaker P Q weaker xs a.1)

-- ---- the least of some numbers

-- this number is among them
abbrev pub IsAmong : ℕ → List ℕ → Type 0
IsAmong n [] = ⊥
IsAmong n (m ∷ ms) = (m ≡ n) ⊎ IsAmong n ms

no_least : (k : ℕ) → ◌≡◌ {A = Option ℕ} None (Some k) → ⊥
no_least k e = cc

least_above : (n : ℕ) (ns : List ℕ) → AllByRecursion (λ m. n ≤ m) ns → (k : ℕ) → least ns ≡ Some k
    → n ≤ k
least_above n [] a k e = absurd (no_least k e)
least_above n (m ∷ ms) a k e = by (λ j is. least_above n ms a.1 j is) (least ms) refl e
  where
    by : ((j : ℕ) → least ms ≡ Some j → n ≤ j) → (o : Option ℕ) → least ms ≡ o
        → Some (option_map_or (min m) o m) ≡ Some k → n ≤ k
    by above None is s = let low = a.0 in let same = same_Some m k s in omega (arith, low, same)
    by above (Some j) is s =
        let low = a.0 in
        let rest = above j is in
        let same = same_Some (min m j) k s in
        omega (arith, low, rest, same)

pub least_is : (n : ℕ) (ns : List ℕ) → AllByRecursion (λ m. n ≤ m) ns → IsAmong n ns
    → least ns ≡ Some n
least_is n [] a here = absurd here
least_is n (m ∷ ms) a among = ⊎_elim
    (λ first. by first (least ms) refl)
    (λ later. ap (λ o. Some (option_map_or (min m) o m)) (least_is n ms a.1 later)
    ∙ ap Some (min-eq_right a.0))
    among
  where
    by : m ≡ n → (o : Option ℕ) → least ms ≡ o → Some (option_map_or (min m) o m) ≡ Some n
    by first None is = ap Some first
    by first (Some j) is =
        let rest : n ≤ j = least_above n ms a.1 j is in
        ap Some (min-eq_left (omega (arith, first, rest)) ∙ first)

either : (a b : ℕ) → (a ≤ b) ⊎ (b ≤ a)
either a b = ⊎_elim (λ less. inl (omega (arith, less))) (λ le. inr le) (cases_lt a b)

pub none_least : (ns : List ℕ) → least ns ≡ None → ns ≡ []
none_least [] e = refl
none_least (m ∷ ms) e = absurd (some _ e)
  where
    some : (k : ℕ) → ◌≡◌ {A = Option ℕ} (Some k) None → ⊥
    some k e = cc

-- what is least is among them
pub least_among : (ns : List ℕ) (k : ℕ) → least ns ≡ Some k → IsAmong k ns
least_among [] k e = no_least k e
least_among (m ∷ ms) k e = by (least_among ms k) (least ms) refl e
  where
    by : (least ms ≡ Some k → IsAmong k ms) → (o : Option ℕ) → least ms ≡ o
        → Some (option_map_or (min m) o m) ≡ Some k → IsAmong k (m ∷ ms)
    by rest None is s = inl (same_Some m k s)
    by rest (Some j) is s = ⊎_elim
        (λ low. inl (sym (min-eq_left low) ∙ same_Some (min m j) k s))
        (λ high. inr (rest (is ∙ ap Some (sym (min-eq_right high) ∙ same_Some (min m j) k s))))
        (either m j)
