-- The ids above that of the last row, before and after a row is put.
use Rattle.std.proofs.Common.{◌≡◌, ◌≢◌, inl, inr, ℕ, ◌+◌, ◌^◌, ℤ, pos, negsuc, ◌+ℤ◌, ◌≤ℤ◌, ◌<ℤ◌}
use Rattle.std.proofs.Common.{Bool, true, false, List, [], ◌∷◌, ◌++◌, fold, map, not, Less, Equal}
use Rattle.std.proofs.Common.{Greater, Ordering, int_cmp, is_eq, refl, sym, ap, subst, ◌∙◌}
use Rattle.std.proofs.Common.{true≢false, arith}
use Rattle.std.specs.List.{AllByRecursion}
use Rattle.std.specs.Ordering.{MatchOrdering}
use Rattle.std.proofs.lemmas.Bool.{false_from_ne_true, lt-ltb, ltb-true, not-true, both_ways}
use Rattle.std.proofs.lemmas.Cmp.{int_ranked}
use Rattle.std.proofs.lemmas.Int.{ints, by_lt_z}
use Rattle.sqlite.specs.Order.{Row, value_cmp}
use Rattle.sqlite.specs.declared.types.Value.TheVariants.{Int}
use Rattle.sqlite_rules.specs.Edit.{id_in, is_taken, next_rowid}
use Rattle.sqlite_rules.specs.Lists.{Has}
use Rattle.sqlite_rules.proofs.ListLemmas.{all_from, all_has, has_filtered, some_has}
use Rattle.sqlite_rules.proofs.TableLemmas.{next_after, put_has}
use Rattle.sqlite_sql.specs.Ops.{fits_i64}
use Rattle.sqlite_trees.specs.Tree.{has_rowid, put_row, rowid, without_rowid}
use Rattle.sqlite_value.proofs.OrderLemmas.{value_cmp-Int}
use Rattle.std.specs.List.Sorted.{IsPermutation}
use Rattle.store_tables.specs.Acceptance.{HasFreeIds, row_id}
use Rattle.store_tables.proofs.FreshLemmas.{item_of, row_of}

-- ---- column values

fits_low : (z : ℤ) → fits_i64 z ≡ true → pos 0 ≤ℤ (z +ℤ pos (2 ^ 63))
fits_low (pos n) h = omega (arith, ints)
fits_low (negsuc n) h = let low = ltb-true n (2 ^ 63) h in omega (arith, ints, low)

fits_from : (z : ℤ) → pos 0 ≤ℤ (z +ℤ pos (2 ^ 63)) → z <ℤ pos (2 ^ 63) → fits_i64 z ≡ true
fits_from (pos n) low high = lt-ltb n (2 ^ 63) (omega (arith, ints, high))
fits_from (negsuc n) low high = lt-ltb n (2 ^ 63) (omega (arith, ints, low))

-- ---- the id after the last

-- one above the id of the last row; the first number if there is no row
abbrev last_after : ℤ → List Row → ℤ
last_after = fold (λ _ r. row_id r +ℤ pos 1)

-- each id is a number
abbrev pub HaveIds : List Row → Type 0
HaveIds = AllByRecursion (λ r. rowid r ≡ Int (row_id r))

low_after : (a : ℤ) (rows : List Row) → pos 0 ≤ℤ (a +ℤ pos (2 ^ 63))
    → AllByRecursion (λ r. fits_i64 (row_id r) ≡ true) rows
    → pos 0 ≤ℤ (last_after a rows +ℤ pos (2 ^ 63))
low_after a [] low h = low
low_after a (r ∷ rs) low h = let here = fits_low (row_id r) h.0 in
    low_after (row_id r +ℤ pos 1) rs (omega (arith, ints, here)) h.1

-- the next id is a column value
pub next_fits : (count : ℕ) (rows : List Row) → HasFreeIds (count + 1) rows
    → fits_i64 (next_rowid rows) ≡ true
next_fits count rows h =
    let room = h.room in
    fits_from (next_rowid rows) (low_after (pos 1) rows (omega (arith, ints)) h.columns)
    (omega (arith, ints, room))

compared : (r row : Row) (a b : ℤ) → rowid r ≡ Int a → rowid row ≡ Int b
    → value_cmp (rowid r) (rowid row) ≡ int_cmp a b
compared r row a b at there = rw (at, there) (value_cmp-Int a b)

ordered : (a b : ℤ) (o : Ordering) → int_cmp a b ≡ o → MatchOrdering o (a <ℤ b) (a ≡ b) (b <ℤ a)
ordered a b o e = int_ranked a b o (sym e)

same_at : (r : Row) (i : ℤ) → rowid r ≡ Int (row_id r) → has_rowid i r ≡ true → row_id r ≡ i
same_at r i at h = step (int_cmp (row_id r) i) refl
  where
    step : (o : Ordering) → int_cmp (row_id r) i ≡ o → row_id r ≡ i
    step Equal e = ordered (row_id r) i Equal e
    step Less e = absurd (true≢false (sym h ∙ (ap (λ v. is_eq (value_cmp v (Int i))) at
        ∙ ap is_eq (value_cmp-Int (row_id r) i ∙ e))))
    step Greater e = absurd (true≢false (sym h ∙ (ap (λ v. is_eq (value_cmp v (Int i))) at
        ∙ ap is_eq (value_cmp-Int (row_id r) i ∙ e))))

same_has : (r : Row) (i : ℤ) → rowid r ≡ Int i → has_rowid i r ≡ true
same_has r i at = step (int_cmp i i) refl
  where
    step : (o : Ordering) → int_cmp i i ≡ o → has_rowid i r ≡ true
    step Equal e = ap (λ v. is_eq (value_cmp v (Int i))) at ∙ ap is_eq (value_cmp-Int i i ∙ e)
    step Less e = let less = ordered i i Less e in absurd (omega (arith, ints, less))
    step Greater e = let less = ordered i i Greater e in absurd (omega (arith, ints, less))

-- the next id is unused
pub next_unused : (count : ℕ) (rows : List Row) → HaveIds rows → HasFreeIds count rows
    → is_taken rows (Int (next_rowid rows) ∷ []) ≡ false
next_unused count rows whole h = false_from_ne_true _ (λ taken.
    let it = some_has (has_rowid (next_rowid rows)) rows taken in
    let same = same_at it.0 (next_rowid rows) (all_has (λ r. rowid r ≡ Int (row_id r)) rows it.0
    whole it.1) it.2 in
    let below = all_has (λ r. row_id r <ℤ next_rowid rows) rows it.0 h.last_greatest it.1 in
    omega (arith, ints, same, below))

-- ---- a row above all others

module _ (row : Row) (i : ℤ) (at : rowid row ≡ Int i) where
  put_above : (rows : List Row) → HaveIds rows → AllByRecursion (λ r. row_id r <ℤ i) rows
      → put_row row rows ≡ rows ++ row ∷ []
  put_above [] whole low = refl
  put_above (r ∷ rs) whole low = step (value_cmp (rowid r) (rowid row)) refl
      (put_above rs whole.1 low.1)
    where
      cmp : (o : Ordering) → value_cmp (rowid r) (rowid row) ≡ o → int_cmp (row_id r) i ≡ o
      cmp o e = sym (compared r row (row_id r) i whole.0 at) ∙ e

      step : (o : Ordering) → value_cmp (rowid r) (rowid row) ≡ o → put_row row rs ≡ rs ++ row ∷ []
          → put_row row (r ∷ rs) ≡ r ∷ rs ++ row ∷ []
      step Less e more = rw e (ap (λ l. r ∷ l) more)
      step Equal e more = let same = ordered (row_id r) i Equal (cmp Equal e) in let below =
          low.0 in absurd (omega (arith, ints, same, below))
      step Greater e more = let above = ordered (row_id r) i Greater (cmp Greater e) in let below =
          low.0 in absurd (omega (arith, ints, above, below))

  id_is : row_id row ≡ i
  id_is = ap id_in at

  next_above : (rows : List Row) → HaveIds rows → AllByRecursion (λ r. row_id r <ℤ i) rows
      → next_rowid (put_row row rows) ≡ i +ℤ pos 1
  next_above rows whole low = ap next_rowid (put_above rows whole low)
      ∙ (next_after rows row ∙ ap (λ z. z +ℤ pos 1) id_is)

  -- ---- a row below the last

  module _ (next : ℤ) (below : (i +ℤ pos 1) <ℤ next) where
    dropped : (a : ℤ) (rows : List Row) → HaveIds rows → last_after a rows ≡ next
        → last_after a (without_rowid i rows) ≡ next
    dropped a [] whole h = h
    dropped a (r ∷ rs) whole h = step (has_rowid i r) refl (dropped (row_id r +ℤ pos 1) rs whole.1
        h)
      where
        from : row_id r ≡ i → (left : List Row) → last_after (row_id r +ℤ pos 1) left ≡ next
            → last_after a left ≡ next
        from same [] k = absurd (omega (arith, ints, same, k, below))
        from same (x ∷ xs) k = k

        step : (b : Bool) → has_rowid i r ≡ b → last_after (row_id r +ℤ pos 1) (without_rowid i rs)
            ≡ next → last_after a (without_rowid i (r ∷ rs)) ≡ next
        step false e more = rw e more
        step true e more = rw e (from (same_at r i whole.0 e) (without_rowid i rs) more)

    placed : (a : ℤ) (rows : List Row) → a ≢ next → HaveIds rows → last_after a rows ≡ next
        → last_after a (put_row row rows) ≡ next
    placed a [] other whole h = absurd (other h)
    placed a (r ∷ rs) other whole h =
        step (value_cmp (rowid r) (rowid row)) refl (λ apart. placed (row_id r +ℤ pos 1) rs apart
        whole.1 h)
      where
        cmp : (o : Ordering) → value_cmp (rowid r) (rowid row) ≡ o → int_cmp (row_id r) i ≡ o
        cmp o e = sym (compared r row (row_id r) i whole.0 at) ∙ e

        step : (o : Ordering) → value_cmp (rowid r) (rowid row) ≡ o → (row_id r +ℤ pos 1 ≢ next
            → last_after (row_id r +ℤ pos 1) (put_row row rs) ≡ next)
            → last_after a (put_row row (r ∷ rs)) ≡ next
        step Less e more = let less = ordered (row_id r) i Less (cmp Less e) in
            rw e (more (λ same. omega (arith, ints, less, same, below)))
        step Equal e more = let same = ordered (row_id r) i Equal (cmp Equal e) in
            rw e (ap (λ z. last_after (z +ℤ pos 1) rs) (id_is ∙ sym same) ∙ h)
        step Greater e more = rw e h

-- ---- the row of a new member

pub ids_after_new : (count : ℕ) (rows : List Row) (row : Row) → rowid row ≡ Int (next_rowid rows)
    → HaveIds rows → HasFreeIds (count + 1) rows → HasFreeIds count (put_row row rows)
ids_after_new count rows row at whole h =
    let next = next_above row (next_rowid rows) at rows whole h.last_greatest in
    let is = id_is row (next_rowid rows) at in
    let room = h.room in
    record {
      columns = all_from (λ r. fits_i64 (row_id r) ≡ true) (put_row row rows)
          (λ r there. elim (put_has row rows r there) [
            | inl new ↦ ap (λ x. fits_i64 (row_id x)) new
                ∙ (ap fits_i64 is ∙ next_fits count rows h)
            | inr old ↦ all_has (λ r. fits_i64 (row_id r) ≡ true) rows r h.columns old
          ]);
      last_greatest = all_from (λ r. row_id r <ℤ next_rowid (put_row row rows)) (put_row row rows)
          (λ r there. elim (put_has row rows r there) [
            | inl new ↦ let same = ap row_id new in omega (arith, ints, next, is, same)
            | inr old ↦ let below = all_has (λ r. row_id r <ℤ next_rowid rows) rows r
                h.last_greatest
                old in omega (arith, ints, next, below)
          ]);
      room = omega (arith, ints, next, room);
    }

-- ---- the row of a member that is updated

module _ (rows : List Row) (row : Row) (i : ℤ) (at : rowid row ≡ Int i) (whole : HaveIds rows)
    (greatest : AllByRecursion (λ r. row_id r <ℤ next_rowid rows) rows) where
  left_whole : HaveIds (without_rowid i rows)
  left_whole = all_from (λ r. rowid r ≡ Int (row_id r)) (without_rowid i rows)
      (λ r there. all_has (λ r. rowid r ≡ Int (row_id r)) rows r whole
      (has_filtered _ rows r there).0)

  -- the row was the last one
  left_below : i +ℤ pos 1 ≡ next_rowid rows
      → AllByRecursion (λ r. row_id r <ℤ i) (without_rowid i rows)
  left_below last = all_from (λ r. row_id r <ℤ i) (without_rowid i rows) (λ r there.
      let stays = has_filtered (λ r. not (has_rowid i r)) rows r there in
      let below = all_has (λ r. row_id r <ℤ next_rowid rows) rows r greatest stays.0 in
      by_lt_z (row_id r) i (λ less. less) (λ above.
      let same : row_id r ≡ i = grind (arith, ints) in
      absurd (both_ways _ (not-true _ stays.1)
      (same_has r i (all_has (λ r. rowid r ≡ Int (row_id r)) rows r whole stays.0
      ∙ ap Int same)))))

  -- the row was not the last one
  next_stays : (i +ℤ pos 1) <ℤ next_rowid rows → (r : Row) → Has rows r
      → next_rowid (put_row row (without_rowid i rows)) ≡ next_rowid rows
  next_stays below r there = go rows refl there
    where
      next : ℤ
      next = next_rowid rows

      other : next +ℤ pos 1 ≢ next
      other e = omega (arith, ints, e)

      back : (l : List Row) → last_after (next +ℤ pos 1) l ≡ next → next_rowid l ≡ next
      back [] h = absurd (other h)
      back (x ∷ xs) h = h

      go : (l : List Row) → l ≡ rows → Has l r → next_rowid (put_row row (without_rowid i rows))
          ≡ next
      go [] is h = absurd h
      go (x ∷ xs) is h =
          let from : last_after (next +ℤ pos 1) rows ≡ next =
          subst (λ l. last_after (next +ℤ pos 1) l ≡ next_rowid l) is refl in
          back (put_row row (without_rowid i rows)) (placed row i at next below (next +ℤ pos 1)
          (without_rowid i rows) other left_whole (dropped row i at next below (next +ℤ pos 1)
          rows whole from))

  same_next : (r : Row) → Has rows r → row_id r ≡ i
      → next_rowid (put_row row (without_rowid i rows)) ≡ next_rowid rows
  same_next r there is =
      let low = all_has (λ r. row_id r <ℤ next_rowid rows) rows r greatest there in
      by_lt_z (i +ℤ pos 1) (next_rowid rows) (λ below. next_stays below r there) (λ above.
      let last : i +ℤ pos 1 ≡ next_rowid rows = grind (arith, ints) in
      next_above row i at (without_rowid i rows) left_whole (left_below last) ∙ last)

pub ids_after_change : (count : ℕ) (rows : List Row) (row : Row) (i : ℤ) → rowid row ≡ Int i
    → HaveIds rows → (r : Row) → Has rows r → row_id r ≡ i → HasFreeIds (count + 1) rows
    → HasFreeIds count (put_row row (without_rowid i rows))
ids_after_change count rows row i at whole r there is h =
    let next = same_next rows row i at whole h.last_greatest r there is in
    let at_row = id_is row i at in
    let room = h.room in
    record {
      columns = all_from (λ r. fits_i64 (row_id r) ≡ true) (put_row row (without_rowid i rows))
          (λ x found. elim (put_has row (without_rowid i rows) x found) [
            | inl new ↦ ap (λ x. fits_i64 (row_id x)) new ∙ (ap fits_i64 (at_row ∙ sym is)
                ∙ all_has (λ r. fits_i64 (row_id r) ≡ true) rows r h.columns there)
            | inr old ↦ all_has (λ r. fits_i64 (row_id r) ≡ true) rows x h.columns
                (has_filtered _ rows x old).0
          ]);
      last_greatest = all_from (λ r. row_id r <ℤ next_rowid (put_row row (without_rowid i rows)))
          (put_row row (without_rowid i rows))
          (λ x found. elim (put_has row (without_rowid i rows) x found) [
            | inl new ↦
                let same = ap row_id new in
                let low = all_has (λ r. row_id r <ℤ next_rowid rows) rows r h.last_greatest there in
                omega (arith, ints, next, at_row, same, low, is)
            | inr old ↦
                let low = all_has (λ r. row_id r <ℤ next_rowid rows) rows x h.last_greatest
                (has_filtered _ rows x old).0 in
                omega (arith, ints, next, low)
          ]);
      room = omega (arith, ints, next, room);
    }

-- ---- the rows of a table

module _ {X : Type 0} (stored : X → Row) (cells : Row → Row) (same_id : (r : Row)
    → rowid (cells r) ≡ rowid r) (id : X → ℤ) (at_id : (x : X) → rowid (stored x) ≡ Int (id x))
    (xs : List X) (rows : List Row)
    (holds : IsPermutation (map stored xs) (map cells rows)) where
  -- each id is a number
  pub have_ids : HaveIds rows
  have_ids = all_from (λ r. rowid r ≡ Int (row_id r)) rows (λ r there.
      let it = item_of stored cells same_id xs rows holds r there in
      let at : rowid r ≡ Int (id it.0) = sym (same_id r) ∙ (ap rowid it.2 ∙ at_id it.0) in
      at ∙ ap Int (sym (ap id_in at)))

  -- each id is a column value
  pub column_ids : (count : ℕ) → HasFreeIds count rows
      → AllByRecursion (λ x. fits_i64 (id x) ≡ true) xs
  column_ids count h = all_from (λ x. fits_i64 (id x) ≡ true) xs (λ x there.
      let it = row_of stored cells same_id xs rows holds x there in
      let at : rowid it.0 ≡ Int (id x) = sym (same_id it.0) ∙ (sym (ap rowid it.2) ∙ at_id x) in
      ap fits_i64 (sym (ap id_in at)) ∙ all_has (λ r. fits_i64 (row_id r) ≡ true) rows it.0
      h.columns it.1)
