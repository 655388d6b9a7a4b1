-- Why queries of many rows fail.
use Rattle.std.proofs.Common.{◌≡◌, ◌<◌, ℕ, zero, suc, Bool, true, false, List, [], ◌∷◌, length}
use Rattle.std.proofs.Common.{get_or, map, filter, take, Ordering, refl, sym, subst, arith}
use Rattle.std.specs.List.{AllByRecursion}
use Rattle.sqlite.specs.Order.{Row}
use Rattle.sqlite_trees.proofs.ListLemmas.{all-permutation}
use Rattle.store_tables.specs.QueryResults.{AreRowsInOrder, AreFirstRowsInOrder}

-- one of the rows
pub all_at : {X : Type 0} (P : X → Type 0) (xs : List X) (i : ℕ) (x : X) → AllByRecursion P xs
    → i < length xs → x ≡ get_or xs i x → P x
all_at P [] i x all low is = absurd (omega (arith, low))
all_at P (y ∷ ys) zero x all low is = subst P (sym is) all.0
all_at P (y ∷ ys) (suc i) x all low is = all_at P ys i x all.1 (omega (arith, low)) is

pub all_filtered : {X : Type 0} (P : X → Type 0) (p : X → Bool) (xs : List X) → AllByRecursion P xs
    → AllByRecursion P (filter p xs)
all_filtered P p [] all = tt
all_filtered P p (x ∷ xs) all = step (p x) refl (all_filtered P p xs all.1)
  where
    step : (b : Bool) → p x ≡ b → AllByRecursion P (filter p xs)
        → AllByRecursion P (filter p (x ∷ xs))
    step true e more = rw e (all.0, more)
    step false e more = rw e more

pub all_taken : {X : Type 0} (P : X → Type 0) (n : ℕ) (xs : List X) → AllByRecursion P xs
    → AllByRecursion P (take n xs)
all_taken P zero xs all = tt
all_taken P (suc n) [] all = tt
all_taken P (suc n) (x ∷ xs) all = (all.0, all_taken P n xs all.1)

all_shown : {X : Type 0} (P : X → Type 0) (show : X → Row) (xs : List X) → AllByRecursion P xs
    → AllByRecursion (λ row. (x : X) × P x × (row ≡ show x)) (map show xs)
all_shown P show [] all = tt
all_shown P show (x ∷ xs) all = ((x, all.0, refl), all_shown P show xs all.1)

pub all_in_order : {X : Type 0} (P : X → Type 0) (compare : X → X → Ordering) (show : X
    → Row) (xs : List X) (rows : List Row) → AllByRecursion P xs
    → AreRowsInOrder compare show xs rows → AllByRecursion (λ row. (x : X) × P x × (row ≡ show x))
    rows
all_in_order {X = X} P compare show xs rows all h =
    subst (AllByRecursion (λ row. (x : X) × P x × (row ≡ show x))) (sym h.shown)
    (all_shown P show h.ordered (all-permutation P xs h.ordered h.same all))

pub first_in_order : {X : Type 0} (P : X → Type 0) (compare : X → X → Ordering) (show : X
    → Row) (most : ℕ) (xs : List X) (rows : List Row) → AllByRecursion P xs
    → AreFirstRowsInOrder compare show most xs rows
    → AllByRecursion (λ row. (x : X) × P x × (row ≡ show x)) rows
first_in_order {X = X} P compare show most xs rows all h =
    subst (AllByRecursion (λ row. (x : X) × P x × (row ≡ show x))) (sym h.first)
    (all_taken _ most (map show h.ordered) (all_shown P show h.ordered
    (all-permutation P xs h.ordered h.same all)))
