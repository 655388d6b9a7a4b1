-- Lists that are written at a place.
use Rattle.std.proofs.Common.{◌≡◌, ◌∙◌, ◌==◌, ◌<◌, ℕ, zero, suc, Bool, true, false, List, [], ◌∷◌}
use Rattle.std.proofs.Common.{◌++◌, Option, Some, None, cond, refl, sym, ap, subst, eq-eqb, length}
use Rattle.std.proofs.Common.{get_or, slice_get, slice_set, arith, ◌≤◌, is_some, IsTrue}
use Rattle.std.proofs.lemmas.Bool.{eqb-true}
use Rattle.std.proofs.lemmas.Option.{slice_get-get_or}

pub apart_of : (i n : ℕ) → (i == n) ≡ false → i ≡ n → ⊥
apart_of i n e same = cc (eq-eqb i n same, e)

module _ {A : Type 0} where
  pub set_same : (xs : List A) (i : ℕ) (x y : A) → slice_get xs i ≡ Some y
      → slice_get (slice_set xs i x) i ≡ Some x
  set_same [] i x y e = cc e
  set_same (z ∷ xs) zero x y e = refl
  set_same (z ∷ xs) (suc i) x y e = set_same xs i x y e

  pub set_other : (xs : List A) (i n : ℕ) (x : A) → (i ≡ n → ⊥) → slice_get (slice_set xs i x) n
      ≡ slice_get xs n
  set_other [] i n x apart = refl
  set_other (z ∷ xs) zero zero x apart = absurd (apart refl)
  set_other (z ∷ xs) zero (suc n) x apart = refl
  set_other (z ∷ xs) (suc i) zero x apart = refl
  set_other (z ∷ xs) (suc i) (suc n) x apart = set_other xs i n x (λ e. apart (ap suc e))

  pub set_length : (xs : List A) (i : ℕ) (x : A) → length (slice_set xs i x) ≡ length xs
  set_length [] i x = refl
  set_length (z ∷ xs) zero x = refl
  set_length (z ∷ xs) (suc i) x = ap suc (set_length xs i x)

  -- an element that is found is within the list
  pub found_within : (xs : List A) (i : ℕ) (x : A) → slice_get xs i ≡ Some x → i < length xs
  found_within [] i x e = cc e
  found_within (z ∷ xs) zero x e = omega arith
  found_within (z ∷ xs) (suc i) x e = let within : i < length xs = found_within xs i x e in
      omega arith

  -- what a changed list shows at each place
  pub shown : {X : Type 0} (f : Option A → X) (xs : List A) (i n : ℕ) (x y : A) (b : Bool)
      → (i == n) ≡ b → slice_get xs i ≡ Some y
      → f (slice_get (slice_set xs i x) n) ≡ cond b (f (Some x)) (f (slice_get xs n))
  shown f xs i n x y true e at = subst (λ m. f (slice_get (slice_set xs i x) m) ≡ f (Some x))
      (eqb-true i n e) (ap f (set_same xs i x y at))
  shown f xs i n x y false e at = ap f (set_other xs i n x (apart_of i n e))

  -- a change of something else is not shown
  pub shown_same : {X : Type 0} (f : Option A → X) (xs : List A) (i n : ℕ) (x y : A) (b : Bool)
      → (i == n) ≡ b → slice_get xs i ≡ Some y
      → f (Some x) ≡ f (Some y) → f (slice_get (slice_set xs i x) n) ≡ f (slice_get xs n)
  shown_same f xs i n x y true e at same =
      shown f xs i n x y true e at ∙ same ∙ sym (ap f at)
      ∙ ap (λ m. f (slice_get xs m)) (eqb-true i n e)
  shown_same f xs i n x y false e at same = shown f xs i n x y false e at

  -- one more element at the end
  pub get_before_end : (xs : List A) (x y : A) (n : ℕ) → slice_get xs n ≡ Some y
      → slice_get (xs ++ x ∷ []) n ≡ Some y
  get_before_end [] x y n e = cc e
  get_before_end (z ∷ xs) x y zero e = e
  get_before_end (z ∷ xs) x y (suc n) e = get_before_end xs x y n e

  pub get_at_end : (xs : List A) (x : A) → slice_get (xs ++ x ∷ []) (length xs) ≡ Some x
  get_at_end [] x = refl
  get_at_end (z ∷ xs) x = get_at_end xs x

  -- what an index reads
  pub found_at : (xs : List A) (i : ℕ) (x : A) → i < length xs → x ≡ get_or xs i x
      → slice_get xs i ≡ Some x
  found_at xs i x within is = slice_get-get_or xs i x within ∙ ap Some (sym is)

module _ {A : Type 0} where
  pub open_there : (xs : List (Option A)) (i : ℕ) (x : Option A) (b : Bool)
      → slice_get xs i ≡ Some x → b ≡ is_some x
      → (IsTrue b → (y : A) × (slice_get xs i ≡ Some (Some y)))
      × ((y : A) × (slice_get xs i ≡ Some (Some y)) → IsTrue b)
  open_there xs i None b at test = (λ yes. cc (test, yes), λ there. cc (at, there.1))
  open_there xs i (Some y) b at test = (λ yes. (y, at), λ there. test)

  pub none_past_end : (xs : List (Option A)) (i : ℕ) → length xs ≤ i
      → (IsTrue false → (y : A) × (slice_get xs i ≡ Some (Some y)))
      × ((y : A) × (slice_get xs i ≡ Some (Some y)) → IsTrue false)
  none_past_end xs i past = (
    λ yes. cc yes,
    λ there. let within : i < length xs = found_within xs i
        (Some there.0) there.1 in absurd (omega arith),
  )
