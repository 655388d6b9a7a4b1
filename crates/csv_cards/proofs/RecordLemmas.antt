-- Records, and their fields by index.
use Rattle.std.proofs.Common.{◌≡◌, ◌≢◌, ◌<◌, ◌+◌, ◌∷◌, [], ℕ, zero, suc, List, Option, Some, None}
use Rattle.std.proofs.Common.{length, take, drop, arith, refl, ap, ◌∙◌, IsUtf8}
use Rattle.csv.specs.Records.{AllText, field_at}
use Rattle.csv_cards.specs.Rows.{Row, row_field}

abbrev unwrap : Option (List ℕ) → List ℕ
unwrap None = []
unwrap (Some octets) = octets

-- ---- the field at an index

pub field-some : (row : Row) (place : ℕ) (octets : List ℕ) → Some octets ≡ field_at row place
    → octets ≡ row_field row place
unfolding field_at
field-some [] place octets e = cc e
field-some (x ∷ xs) zero octets e = ap unwrap e
field-some (x ∷ xs) (suc place) octets e = field-some xs place octets e

pub field-none : (row : Row) (place : ℕ) → ◌≡◌ {A = Option (List ℕ)} None (field_at row place)
    → ◌≡◌ {A = List ℕ} [] (row_field row place)
unfolding field_at
field-none [] place e = refl
field-none (x ∷ xs) zero e = cc e
field-none (x ∷ xs) (suc place) e = field-none xs place e

-- ---- fields that are text

all_text-suc : (row : Row) (place : ℕ) → place < length row → AllText (take place row)
    → IsUtf8 (row_field row place) → AllText (take (suc place) row)
unfolding AllText
all_text-suc [] place small all this = tt
all_text-suc (x ∷ xs) zero small all this = (this, tt)
all_text-suc (x ∷ xs) (suc place) small all this =
    (all.0, all_text-suc xs place (omega arith) all.1 this)

pub all_text-more : (row : Row) (place : ℕ) → place < length row → AllText (take place row)
    → IsUtf8 (row_field row place) → AllText (take (place + 1) row)
all_text-more row place small all this =
    let next : place + 1 ≡ suc place = omega arith in
    rw next (all_text-suc row place small all this)

pub text_at : (row : Row) (place : ℕ) → place < length row → AllText row
    → IsUtf8 (row_field row place)
unfolding AllText
text_at [] place small all = absurd (omega arith)
text_at (x ∷ xs) zero small all = all.0
text_at (x ∷ xs) (suc place) small all = text_at xs place (omega arith) all.1

-- ---- rows that are the same field by field

abbrev first : Row → List ℕ
first row = row_field row 0

same-suc : (a b : Row) (place : ℕ) → place < length a → place < length b
    → take place a ≡ take place b → row_field a place ≡ row_field b place
    → take (suc place) a ≡ take (suc place) b
same-suc [] b place small smaller same this = absurd (omega arith)
same-suc (x ∷ xs) [] place small smaller same this = absurd (omega arith)
same-suc (x ∷ xs) (y ∷ ys) zero small smaller same this = ap (λ f. f ∷ []) this
same-suc (x ∷ xs) (y ∷ ys) (suc place) small smaller same this =
    ap (λ f. f ∷ take (suc place) xs) (ap first same)
    ∙ ap (λ fs. y ∷ fs) (same-suc xs ys place (omega arith) (omega arith) (ap (drop 1) same) this)

pub same-more : (a b : Row) (place : ℕ) → place < length a → length a ≡ length b
    → take place a ≡ take place b → row_field a place ≡ row_field b place
    → take (place + 1) a ≡ take (place + 1) b
same-more a b place small long same this =
    let next : place + 1 ≡ suc place = omega arith in
    rw next (same-suc a b place small (omega (arith, long)) same this)
