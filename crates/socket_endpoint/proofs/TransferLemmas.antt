-- What the answer of a test rules out.
use Rattle.std.proofs.Common.{◌≡◌, ◌↔◌, Bool, false, IsTrue}

pub not_so : (answer : Bool) {A : Type 0} → IsTrue answer ↔ A → answer ≡ false → A → ⊥
not_so answer tells off so = absurd (cc (tells.1 so, off))
