-- Results.
use Rattle.std.proofs.Common.{Result, Ok, Err, Option, Some, None}
use Rattle.std.specs.Prelude.{IfOk, IfSome, OnOk}

-- what holds of each value holds of that of a result
pub ok_then : {X E : Type 0} {P Q : X → Type 0} (r : Result X E) → ((x : X) → P x → Q x) → IfOk r P
    → IfOk r Q
ok_then (Ok x) f p = f x p
ok_then (Err e) f p = tt

-- what follows from two facts
pub ok_both : {X E : Type 0} {P Q S : Type 0} (r : Result X E) → (P → Q → S) → OnOk r P → OnOk r Q
    → OnOk r S
ok_both (Ok x) f p q = f p q
ok_both (Err e) f p q = tt

-- what holds of each value holds of one that a result has
pub ok_some : {X E : Type 0} {P Q : X → Type 0} (r : Result (Option X) E) → ((x : X) → P x → Q x)
    → IfOk r (λ o. IfSome o P) → IfOk r (λ o. IfSome o Q)
ok_some (Ok (Some x)) f p = f x p
ok_some (Ok None) f p = tt
ok_some (Err e) f p = tt
