-- What a step of a reader gave, where the whole was read.
use Rattle.std.proofs.Common.{◌≡◌, ℕ, ◌<◌, true, false, cond, ◌==◌, List, [], ◌∷◌, length, Option}
use Rattle.std.proofs.Common.{Some, None, Result, Ok, Err, refl, ap, ◌∙◌, arith}
use Rattle.std.proofs.lemmas.Bool.{eqb-true, eq-eqb}
use Rattle.vcard_lines.specs.declared.fault.CardFault.{CardFault}
use Rattle.vcard_lines.specs.ParseSteps.{◌>>=◌, strip_byte, or_bad_line}

-- the value of a step that didn't fail
pub bind_ok : {A B : Type 0} (step : Result A CardFault) (next : A → Result B CardFault) (y : B)
    → (step >>= next) ≡ Ok y → (x : A) × (step ≡ Ok x) × (next x ≡ Ok y)
bind_ok (Ok x) next y e = (x, refl, e)
bind_ok (Err fault) next y e = absurd cc

abbrev read : {A : Type 0} → A → Result A CardFault
read x = Ok x

pub same_ok : {A : Type 0} (x y : A) → read x ≡ read y → x ≡ y
same_ok x y e = cc

pub same_pair : {A B : Type 0} (a x : A) (b y : B) → read {A = A × B} (a, b) ≡ read (x, y) → (a ≡ x)
    × (b ≡ y)
same_pair a x b y e = (ap (λ p. p.0) (same_ok _ _ e), ap (λ p. p.1) (same_ok _ _ e))

pub same_triple : {A B C : Type 0} (a x : A) (b y : B) (c z : C) → read {A = A × B × C} (a, b, c)
    ≡ read (x, y, z) → (a ≡ x) × (b ≡ y) × (c ≡ z)
same_triple a x b y c z e = (
  ap (λ p. p.0) (same_ok _ _ e),
  ap (λ p. p.1) (same_ok _ _ e),
  ap (λ p. p.2) (same_ok _ _ e),
)

pub some_read : {A : Type 0} (o : Option A) (x : A) → or_bad_line o ≡ Ok x → o ≡ Some x
some_read None x e = absurd cc
some_read (Some y) x e = ap (λ z. Some z) (same_ok y x e)

-- the text began with the octet
pub was_stripped : (octet : ℕ) (text more : List ℕ) → strip_byte octet text ≡ Some more
    → text ≡ octet ∷ more
was_stripped octet [] more e = absurd cc
was_stripped octet (o ∷ os) more e = elim (o == octet) as (λ t. (o == octet) ≡ t
    → cond t (Some os) None ≡ Some more → o ∷ os ≡ octet ∷ more) [
      | true ↦ λ t f. let same : os ≡ more = cc in ap (λ x. x ∷ os) (eqb-true o octet t)
          ∙ ap (λ x. octet ∷ x) same
      | false ↦ λ t f. absurd cc
    ] refl e

pub is_stripped : (octet : ℕ) (more : List ℕ) → strip_byte octet (octet ∷ more) ≡ Some more
is_stripped octet more = ap (λ b. cond b (Some more) None) (eq-eqb octet octet refl)

pub stripped_shorter : (octet : ℕ) (text more : List ℕ) → strip_byte octet text ≡ Some more
    → length more < length text
stripped_shorter octet text more e = omega (arith, ap length (was_stripped octet text more e))
