-- The fields of a row by index.
use Rattle.std.proofs.Common.{◌≡◌, ◌∷◌, [], ℕ, zero, suc, List, Option, Some, None, get_or, refl}
use Rattle.std.proofs.Common.{ap}
use Rattle.csv.specs.Records.{field_at}

abbrev unwrap : Option (List ℕ) → List ℕ
unwrap None = []
unwrap (Some octets) = octets

pub field-some : (row : List (List ℕ)) (place : ℕ) (octets : List ℕ)
    → Some octets ≡ field_at row place → octets ≡ get_or row place []
unfolding field_at
field-some [] place octets e = cc e
field-some (x ∷ xs) zero octets e = ap unwrap e
field-some (x ∷ xs) (suc place) octets e = field-some xs place octets e

pub field-none : (row : List (List ℕ)) (place : ℕ)
    → ◌≡◌ {A = Option (List ℕ)} None (field_at row place)
    → ◌≡◌ {A = List ℕ} [] (get_or row place [])
unfolding field_at
field-none [] place e = refl
field-none (x ∷ xs) zero e = cc e
field-none (x ∷ xs) (suc place) e = field-none xs place e
