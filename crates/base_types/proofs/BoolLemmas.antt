-- Small facts about tests that the library doesn't have.
use Rattle.std.proofs.Common.{◌≡◌, Bool, true, false, cond, ◌||◌, refl}

pub or_false : (b : Bool) → (b || false) ≡ b
or_false true = refl
or_false false = refl

pub both_false : (a b : Bool) → (a || b) ≡ false → (a ≡ false) × (b ≡ false)
both_false true b e = absurd (cc)
both_false false b e = (refl, e)

pub same_branches : {A : Type 0} (b : Bool) (x : A) → cond b x x ≡ x
same_branches true x = refl
same_branches false x = refl
