-- A row whose id and keys are unused.
use Rattle.std.proofs.Common.{◌≡◌, inl, inr, ℕ, ℤ, true, false, not, ◌||◌, ◌&&◌, List, [], ◌∷◌, map}
use Rattle.std.proofs.Common.{int_eq, is_eq, refl, sym, ap, subst, ◌∙◌, true≢false}
use Rattle.std.specs.List.{AllByRecursion, list_any}
use Rattle.std.specs.List.Sorted.{IsPermutation}
use Rattle.std.proofs.lemmas.Bool.{and_parts, both_ways, false_from_ne_true, not-true, or_from}
use Rattle.std.proofs.lemmas.List.Sorted.{IsPermutation-sym, list_any-IsPermutation}
use Rattle.sqlite.specs.Order.{Row, value_cmp}
use Rattle.sqlite.specs.declared.types.Value.TheVariants.{Int}
use Rattle.sqlite_rules.specs.Edit.{are_fresh, is_taken}
use Rattle.sqlite_rules.specs.Lists.{Has}
use Rattle.sqlite_rules.proofs.ListLemmas.{has_filtered, some_has}
use Rattle.sqlite_rules.proofs.TableLemmas.{put_has}
use Rattle.sqlite_schema.specs.Rules.{agree, clashes, differ}
use Rattle.sqlite_sql.specs.declared.ops.CompareOp.TheVariants.{Ne}
use Rattle.sqlite_trees.specs.Tree.{has_rowid, put_row, rowid, without_rowid}
use Rattle.sqlite_trees.proofs.ListLemmas.{along_permutation}
use Rattle.sqlite_typed.proofs.TestLemmas.{at_ints}
use Rattle.sqlite_value.specs.declared.keys.Order.{Order}
use Rattle.store_tables.proofs.Cells.{cells_has, has_cells}
use Rattle.store_tables.proofs.KeyedRows.{has_stored, int_itself}

-- ---- membership

-- an item of a list is in each permutation of it
pub has_permuted : {X : Type 0} (xs ys : List X) (x : X) → IsPermutation xs ys → Has xs x → Has ys x
has_permuted xs ys x = along_permutation (λ xs ys. Has xs x → Has ys x) (λ xs h. h)
    (λ y xs ys on. λ h. elim h [ inl e ↦ inl e | inr k ↦ inr (on k) ])
    (λ y z xs. λ h. elim h [
      | inl e ↦ inr (inl e)
      | inr k ↦ elim k [
        | inl e ↦ inl e
        | inr l ↦
            inr (inr l)
      ]
    ]) (λ xs ys zs p q. λ h. q (p h)) xs ys

pub has_stored_row : {X : Type 0} (stored : X → Row) (xs : List X) (x : X) → Has xs x
    → Has (map stored xs) (stored x)
has_stored_row stored [] x h = absurd h
has_stored_row stored (y ∷ ys) x (inl e) = inl (ap stored e)
has_stored_row stored (y ∷ ys) x (inr h) = inr (has_stored_row stored ys x h)

stored_has : {X : Type 0} (stored : X → Row) (xs : List X) (r : Row) → Has (map stored xs) r
    → (x : X) × Has xs x × (r ≡ stored x)
stored_has stored [] r h = absurd h
stored_has stored (y ∷ ys) r (inl e) = (y, inl refl, e)
stored_has stored (y ∷ ys) r (inr h) = let it = stored_has stored ys r h in (it.0, inr it.1, it.2)

module _ {X : Type 0} (stored : X → Row) (cells : Row → Row) (same_id : (r : Row)
    → rowid (cells r) ≡ rowid r) (xs : List X) (rows : List Row) (holds :
    IsPermutation (map stored xs) (map cells rows)) where
  -- each row of the table is that of an item
  pub item_of : (r : Row) → Has rows r → (x : X) × Has xs x × (cells r ≡ stored x)
  item_of r there = stored_has stored xs (cells r)
      (has_permuted _ _ (cells r) (IsPermutation-sym _ _ holds) (has_cells cells same_id rows r
      there))

  -- each item has a row in the table
  pub row_of : (x : X) → Has xs x → (r : Row) × Has rows r × (stored x ≡ cells r)
  row_of x there = cells_has cells same_id rows (stored x) (has_permuted _ _ (stored x) holds
      (has_stored_row stored xs x there))

  module _ (id : X → ℤ) (at_id : (x : X) → rowid (stored x) ≡ Int (id x)) where
    free_stored : (i : ℤ) (ys : List X) → AllByRecursion (λ x. int_eq (id x) i ≡ false) ys
        → list_any (λ r. is_eq (value_cmp (rowid r) (Int i))) (map stored ys) ≡ false
    free_stored i [] h = refl
    free_stored i (y ∷ ys) h = or_from _ _ (has_stored id stored at_id i y
        ∙ h.0) (free_stored i ys h.1)

    any_cells : (i : ℤ) (rs : List Row) → list_any (λ r. is_eq (value_cmp (rowid r) (Int i)))
        (map cells rs) ≡ list_any (λ r. is_eq (value_cmp (rowid r) (Int i))) rs
    any_cells i [] = refl
    any_cells i (r ∷ rs) = rw (same_id r) (ap (λ b. is_eq (value_cmp (rowid r) (Int i)) || b)
        (any_cells i rs))

    -- an id that no item has is free in the table
    pub free_id : (i : ℤ) → AllByRecursion (λ x. int_eq (id x) i ≡ false) xs
        → list_any (λ r. is_eq (value_cmp (rowid r) (Int i))) rows ≡ false
    free_id i none = sym (any_cells i rows)
        ∙ (sym (list_any-IsPermutation (λ r. is_eq (value_cmp (rowid r) (Int i))) _ _ holds)
        ∙ free_stored i xs none)

pub fresh_one : (rows : List Row) (row : Row) → is_taken rows row ≡ false
    → are_fresh rows (row ∷ []) ≡ true
fresh_one rows row free = ap (λ b. not b && true) free

-- the id of a row that was taken out is free
pub left_free : (id : ℤ) (rows : List Row) (row : Row) → rowid row ≡ Int id
    → is_taken (without_rowid id rows) row ≡ false
left_free id rows row at = false_from_ne_true _ (λ taken.
    let it = some_has (λ r. is_eq (value_cmp (rowid r) (rowid row))) (without_rowid id rows)
    taken in
    let stays = has_filtered (λ r. not (has_rowid id r)) rows it.0 it.1 in
    both_ways (has_rowid id it.0) (not-true _ stays.1) (subst (λ v. is_eq (value_cmp (rowid it.0) v)
    ≡ true) at it.2))

-- ---- keys

same_id_agrees : (i : ℤ) → differ (Int i) (Int i) ≡ false
same_id_agrees i = at_ints false Ne i i ∙ ap not (int_itself i)

-- a row whose key no row has
pub no_clash : (o : Order) (places : List ℕ) (rows : List Row) (row : Row) (i : ℤ)
    → rowid row ≡ Int i → ((r : Row) → Has rows r → agree o places r places row ≡ false)
    → clashes o places (put_row row rows) row ≡ false
no_clash o places rows row i at apart = false_from_ne_true _ (λ clash.
    let other = some_has (λ r. agree o places r places row && differ (rowid r) (rowid row))
    (put_row row rows) clash in
    let parts = and_parts _ _ other.2 in
    elim (put_has row rows other.0 other.1) [
      | inl same ↦ true≢false (sym parts.1 ∙ (ap (λ r. differ (rowid r) (rowid row)) same
          ∙ (ap (λ v. differ v v) at ∙ same_id_agrees i)))
      | inr there ↦ true≢false (sym parts.0 ∙ apart other.0 there)
    ])
