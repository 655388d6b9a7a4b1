-- What a query returns, for rows of any table.
use Rattle.std.specs.Prelude.{ℕ, ℤ, pos, min, ◌≡◌, Bool, false, List, [], ◌∷◌, map, filter, take}
use Rattle.std.specs.Prelude.{Result, Ok, Err}
use Rattle.std.specs.declared.cmp.Ordering.{Ordering}
use Rattle.std.specs.Ordering.{int_eq}
use Rattle.std.specs.List.{AllByRecursion}
use Rattle.std.specs.List.Sorted.{IsPermutation, IsSorted}
use Rattle.sqlite.specs.Order.{Row}
use Rattle.sqlite.specs.declared.types.Value.{Value}
use Rattle.sqlite.specs.declared.types.Value.TheVariants.{Int}
use Rattle.sqlite.specs.declared.error.Error.{Error}
use Rattle.sqlite.specs.declared.error.Error.TheVariants.{QueryReturnedNoRows}
use Rattle.sqlite_rules.specs.Lists.{Has}

-- The result is the row of an item that passes the test. If no row was found, no item passes. After
-- any other error nothing is required.
abbrev pub FindsRow : {X : Type 0} → (X → Bool) → (X → Row) → List X → Result Row Error → Type 0
FindsRow {X} test show xs (Ok row) = (x : X) × Has (filter test xs) x × (row ≡ show x)
FindsRow test show xs (Err e) = e ≡ QueryReturnedNoRows → filter test xs ≡ []

-- the query returned a result, or found no row; after any other error nothing is required
abbrev pub IfAnswered : {T : Type 0} → Result T Error → Type 0 → Type 0
IfAnswered (Ok answer) Then = Then
IfAnswered (Err e) Then = e ≡ QueryReturnedNoRows → Then

-- the greatest integer of a column, 2^63 - 1
abbrev pub greatest_integer : ℕ
greatest_integer = 9223372036854775807

-- what a query returns as the count of n rows: 2^63 - 1 if there are more
abbrev pub counted : ℕ → ℕ
counted n = min n greatest_integer

-- a count as a column value
abbrev pub count_value : ℕ → Value
count_value n = Int (pos (counted n))

-- the rows are those of all the items, sorted by the comparison
pub record AreRowsInOrder {X : Type 0} (compare : X → X → Ordering) (show : X → Row) (xs : List X)
    (rows : List Row) : Type 0 where
  pub ordered : List X
  pub same : IsPermutation xs ordered
  pub rises : IsSorted compare ordered
  pub shown : rows ≡ map show ordered

-- the same, but only the first `most` rows
pub record AreFirstRowsInOrder {X : Type 0} (compare : X → X → Ordering) (show : X → Row) (most : ℕ)
    (xs : List X) (rows : List Row) : Type 0 where
  pub ordered : List X
  pub same : IsPermutation xs ordered
  pub rises : IsSorted compare ordered
  pub first : rows ≡ take most (map show ordered)

-- The result is the row of a least item. If no row was found, there is no item. After any other
-- error nothing is required.
abbrev pub FindsFirstRow : {X : Type 0} → (X → X → Ordering) → (X → Row) → List X → Result Row Error
    → Type 0
FindsFirstRow compare show xs (Ok row) = AreFirstRowsInOrder compare show 1 xs (row ∷ [])
FindsFirstRow compare show xs (Err e) = e ≡ QueryReturnedNoRows → xs ≡ []

-- the rows are the old ones and the new one, whose id was unused
pub record AddsRow {X : Type 0} (Hold : List Row → List X → Type 0) (id_of : X → ℤ) (new : X)
    (before : List X) (rows : List Row) : Type 0 where
  pub hold : Hold rows (new ∷ before)
  pub free : AllByRecursion (λ x. int_eq (id_of x) (id_of new) ≡ false) before
