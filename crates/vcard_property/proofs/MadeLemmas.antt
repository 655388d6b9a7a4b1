-- What follows of a line that is made.
use Rattle.std.proofs.Common.{◌≡◌, Option, None, Some, subst}
use Rattle.std.specs.Prelude.{IfOk, IfSome, Result, Ok, Err}

-- what is made meets what follows from what it meets
pub relaxed : {A E : Type 0} (P Q : A → Type 0) (made : Result (Option A) E) → ((a : A) → P a → Q a)
    → IfOk made (λ m. IfSome m P) → IfOk made (λ m. IfSome m Q)
relaxed P Q (Ok (Some a)) f p = f a p
relaxed P Q (Ok None) f p = tt
relaxed P Q (Err e) f p = tt

-- what is found meets what it meets if it is found
pub found_meets : {A : Type 0} (found : Option A) (a : A) (P : A → Type 0) → found ≡ Some a
    → IfSome found P → P a
found_meets found a P is p = subst (λ f. IfSome f P) is p

-- what is made meets what follows from both that it meets
pub relaxed_both : {A E : Type 0} (P Q R : A → Type 0) (made : Result (Option A) E)
    → ((a : A) → P a → Q a → R a) → IfOk made (λ m. IfSome m P) → IfOk made (λ m. IfSome m Q)
    → IfOk made (λ m. IfSome m R)
relaxed_both P Q R (Ok (Some a)) f p q = f a p q
relaxed_both P Q R (Ok None) f p q = tt
relaxed_both P Q R (Err e) f p q = tt
