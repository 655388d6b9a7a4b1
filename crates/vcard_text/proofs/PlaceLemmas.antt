-- The index of the first line that passes a test.
use Rattle.std.proofs.Common.{◌≡◌, ℕ, zero, suc, ◌<◌, ◌≤◌, Bool, true, false, cond, List, [], ◌∷◌}
use Rattle.std.proofs.Common.{length, find, take, slice_get, get_or, Option, Some, None, refl, sym}
use Rattle.std.proofs.Common.{ap, ◌∙◌, arith}
use Rattle.std.proofs.lemmas.Bool.{cond-true, cond-false}

module _ {X : Type 0} (p : X → Bool) where
  -- the first element is none that passes, and no later one before the place is either
  not_first : (x : X) (rest : Option X) → cond (p x) (Some x) rest ≡ None → (p x ≡ false)
      × (rest ≡ None)
  not_first x rest e = elim (p x) as (λ b. p x ≡ b → cond b (Some x) rest ≡ None → (p x ≡ false)
      × (rest ≡ None)) [
        | true ↦ λ t n. cc
        | false ↦ λ t n. (t, n)
      ] refl e

  pub found_there : (xs : List X) (i : ℕ) (x : X) → find p (take i xs) ≡ None → i < length xs
      → x ≡ get_or xs i x → p x ≡ true → find p xs ≡ slice_get xs i
  found_there [] i x none l at is = absurd (omega arith)
  found_there (y ∷ ys) zero x none l at is = cond-true (p y) (Some y) (find p ys) (ap p (sym at)
      ∙ is)
  found_there (y ∷ ys) (suc i) x none l at is =
      let rest = not_first y (find p (take i ys)) none in
      cond-false (p y) (Some y) (find p ys) rest.0 ∙ found_there ys i x rest.1 (omega arith) at is

  pub found_nowhere : (xs : List X) (i : ℕ) → find p (take i xs) ≡ None → length xs ≤ i
      → find p xs ≡ slice_get xs i
  found_nowhere [] i none l = refl
  found_nowhere (y ∷ ys) zero none l = absurd (omega arith)
  found_nowhere (y ∷ ys) (suc i) none l =
      let rest = not_first y (find p (take i ys)) none in
      cond-false (p y) (Some y) (find p ys) rest.0 ∙ found_nowhere ys i rest.1 (omega arith)

  pub none_more : (xs : List X) (i : ℕ) (x : X) → find p (take i xs) ≡ None → i < length xs
      → x ≡ get_or xs i x → p x ≡ false → find p (take (suc i) xs) ≡ None
  none_more [] i x none l at is = absurd (omega arith)
  none_more (y ∷ ys) zero x none l at is = cond-false (p y) (Some y) None (ap p (sym at) ∙ is)
  none_more (y ∷ ys) (suc i) x none l at is =
      let rest = not_first y (find p (take i ys)) none in
      cond-false (p y) (Some y) (find p (take (suc i) ys)) rest.0
      ∙ none_more ys i x rest.1 (omega arith) at is
