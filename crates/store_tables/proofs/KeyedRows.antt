-- Rows of a table with unique ids: some are deleted, or one is updated or inserted.
use Rattle.std.proofs.Common.{◌≡◌, inl, inr, bytes_eq, ℕ, ℤ, Bool, true, false, not, ◌&&◌, ◌||◌}
use Rattle.std.proofs.Common.{cond, if◌then◌else◌, List, [], ◌∷◌, map, filter, Less, Equal, Greater}
use Rattle.std.proofs.Common.{Ordering, int_eq, is_eq, IsPermutation, refl, sym, ap, subst, ◌∙◌}
use Rattle.std.proofs.Common.{true≢false, arith}
use Rattle.std.proofs.lemmas.Int.{ints}
use Rattle.std.proofs.lemmas.List.Sorted.{IsPermutation-refl, IsPermutation-cons}
use Rattle.std.proofs.lemmas.List.Sorted.{IsPermutation-middle, IsPermutation-trans}
use Rattle.std.proofs.lemmas.List.Sorted.{IsPermutation-map, list_any-IsPermutation}
use Rattle.std.specs.List.{AllByRecursion, list_any}
use Rattle.std.proofs.lemmas.Bool.{or_parts}
use Rattle.std.proofs.lemmas.Slice.Eq.{bytes_eq-Decides}
use Rattle.std.proofs.lemmas.List.Elements.{filter_agree}
use Rattle.sqlite.specs.Order.{Row, value_cmp}
use Rattle.sqlite.specs.declared.types.Value.TheVariants.{Int}
use Rattle.sqlite_rules.specs.Edit.{without_all, is_taken, are_fresh}
use Rattle.sqlite_rules.specs.Lists.{Has}
use Rattle.sqlite_trees.specs.Tree.{IsAscending, rowid, has_rowid, put_row, without_rowid}
use Rattle.sqlite_trees.proofs.ListLemmas.{filter-map, all_weaker, IsPermutation-filter}
use Rattle.sqlite_value.proofs.OrderLemmas.{value_cmp-Int}
use Rattle.store_tables.proofs.Cells.{cells_without}

pub same_int : (a b : ℤ) → int_eq a b ≡ true → a ≡ b
same_int a b h = grind (arith, ints)

pub int_itself : (a : ℤ) → int_eq a a ≡ true
int_itself a = grind (arith, ints)

pub text_itself : (a : List ℕ) → bytes_eq a a ≡ true
text_itself a = (bytes_eq-Decides a a).1 refl

pub turned : (a b : ℤ) → int_eq a b ≡ false → int_eq b a ≡ false
turned a b h = grind (arith, ints)

pub all_has : {X : Type 0} (P : X → Type 0) (xs : List X) (x : X) → AllByRecursion P xs → Has xs x
    → P x
all_has P [] x all h = absurd h
all_has P (y ∷ ys) x all (inl same) = rw same all.0
all_has P (y ∷ ys) x all (inr h) = all_has P ys x all.1 h

pub filter_both : {X : Type 0} (p q : X → Bool) (xs : List X)
    → filter (λ x. not (p x)) (filter (λ x. not (q x)) xs) ≡ filter (λ x. not (q x || p x)) xs
filter_both p q [] = refl
filter_both p q (x ∷ xs) = step (q x) (p x) refl refl (filter_both p q xs)
  where
    step : (a b : Bool) → q x ≡ a → p x ≡ b → filter (λ x. not (p x)) (filter (λ x. not (q x)) xs)
        ≡ filter (λ x. not (q x || p x)) xs
        → filter (λ x. not (p x)) (filter (λ x. not (q x)) (x ∷ xs))
        ≡ filter (λ x. not (q x || p x)) (x ∷ xs)
    step true b e k more = rw (e) more
    step false true e k more = rw (e, k) more
    step false false e k more = rw (e, k) (ap (λ l. x ∷ l) more)

pub filter_on : {X : Type 0} (p q : X → Bool) (xs : List X) → AllByRecursion (λ x. p x ≡ q x) xs
    → filter p xs ≡ filter q xs
filter_on p q [] h = refl
filter_on p q (x ∷ xs) h = ap (λ b. cond b (x ∷ filter p xs) (filter p xs)) h.0
    ∙ ap (λ l. cond (q x) (x ∷ l) l) (filter_on p q xs h.1)

pub cells_without_all : (cells : Row → Row) → ((r : Row) → rowid (cells r) ≡ rowid r)
    → (rows : List Row) (ids : List ℤ) → map cells (without_all rows ids)
    ≡ without_all (map cells rows) ids
cells_without_all cells same rows [] = refl
cells_without_all cells same rows (i ∷ ids) =
    cells_without_all cells same (without_rowid i rows) ids
    ∙ ap (λ l. without_all l ids) (cells_without cells same i rows)

pub permuted_without_all : (xs ys : List Row) (ids : List ℤ) → IsPermutation xs ys
    → IsPermutation (without_all xs ids) (without_all ys ids)
permuted_without_all xs ys [] h = h
permuted_without_all xs ys (i ∷ ids) h =
    permuted_without_all (without_rowid i xs) (without_rowid i ys) ids
    (IsPermutation-filter (λ r. not (has_rowid i r)) xs ys h)

-- ---- a row with an unused id

put_step : (new r : Row) (rs : List Row) (o : Ordering) → value_cmp (rowid r) (rowid new) ≡ o
    → is_eq o ≡ false → IsPermutation (new ∷ rs) (put_row new rs)
    → IsPermutation (new ∷ r ∷ rs) (put_row new (r ∷ rs))
put_step new r rs Less e free more =
    rw e (IsPermutation-trans _ _ _ (IsPermutation-middle (new ∷ []) r rs)
    (IsPermutation-cons r _ _ more))
put_step new r rs Equal e free more = absurd (true≢false free)
put_step new r rs Greater e free more = rw e (IsPermutation-refl (new ∷ r ∷ rs))

pub put_free : (new : Row) (rows : List Row) → is_taken rows new ≡ false
    → IsPermutation (new ∷ rows) (put_row new rows)
put_free new [] free = IsPermutation-refl (new ∷ [])
put_free new (r ∷ rs) free =
    let both = or_parts (is_eq (value_cmp (rowid r) (rowid new))) (is_taken rs new) free in
    put_step new r rs (value_cmp (rowid r) (rowid new)) refl both.0 (put_free new rs both.1)

pub free_one : (rows : List Row) (r : Row) → are_fresh rows (r ∷ []) ≡ true
    → is_taken rows r ≡ false
free_one rows r h = step (is_taken rows r) h
  where
    step : (b : Bool) → (not b && true) ≡ true → b ≡ false
    step true h = absurd (true≢false (sym h))
    step false h = refl

module _ {X : Type 0} (id : X → ℤ) (stored : X → Row) (at_id : (x : X)
    → rowid (stored x) ≡ Int (id x)) where
  abbrev pub Apart : List X → Type 0
  Apart = IsAscending (λ a b. int_eq (id a) (id b) ≡ false)

  pub has_stored : (i : ℤ) (x : X) → has_rowid i (stored x) ≡ int_eq (id x) i
  has_stored i x = ap (λ v. is_eq (value_cmp v (Int i))) (at_id x)
      ∙ ap is_eq (value_cmp-Int (id x) i)

  pub without_map : (i : ℤ) (xs : List X) → without_rowid i (map stored xs)
      ≡ map stored (filter (λ x. not (int_eq (id x) i)) xs)
  without_map i xs = filter-map (λ r. not (has_rowid i r)) stored xs
      ∙ ap (map stored) (filter_agree (λ x. not (has_rowid i (stored x)))
      (λ x. not (int_eq (id x) i)) (λ x. ap not (has_stored i x)) xs)

  pub without_all_map : (ids : List ℤ) (xs : List X) → without_all (map stored xs) ids
      ≡ map stored (filter (λ x. not (list_any (int_eq (id x)) ids)) xs)
  without_all_map [] xs = ap (map stored) (sym (all_kept xs))
    where
      all_kept : (ys : List X) → filter (λ x. not (list_any (int_eq (id x)) [])) ys ≡ ys
      all_kept [] = refl
      all_kept (y ∷ ys) = ap (λ l. y ∷ l) (all_kept ys)
  without_all_map (i ∷ ids) xs = ap (λ l. without_all l ids) (without_map i xs)
      ∙ without_all_map ids (filter (λ x. not (int_eq (id x) i)) xs)
      ∙ ap (map stored) (filter_both (λ x. list_any (int_eq (id x)) ids) (λ x. int_eq (id x) i) xs)

  -- ---- the ids of the rows that pass a test

  none_named : (g : X → Bool) (i : ℤ) (xs : List X)
      → AllByRecursion (λ y. int_eq i (id y) ≡ false) xs
      → list_any (int_eq i) (map id (filter g xs)) ≡ false
  none_named g i [] h = refl
  none_named g i (y ∷ ys) h = step (g y) refl (none_named g i ys h.1)
    where
      step : (b : Bool) → g y ≡ b → list_any (int_eq i) (map id (filter g ys)) ≡ false
          → list_any (int_eq i) (map id (filter g (y ∷ ys))) ≡ false
      step true e more = rw (e, h.0) more
      step false e more = rw e more

  later_named : (g : X → Bool) (x : X) (xs ys : List X)
      → AllByRecursion (λ y. int_eq (id x) (id y) ≡ false) ys
      → AllByRecursion (λ y. list_any (int_eq (id y)) (map id (filter g xs)) ≡ g y) ys
      → AllByRecursion (λ y. list_any (int_eq (id y)) (map id (filter g (x ∷ xs))) ≡ g y) ys
  later_named g x xs [] above h = tt
  later_named g x xs (y ∷ ys) above h = (step (g x) refl, later_named g x xs ys above.1 h.1)
    where
      step : (b : Bool) → g x ≡ b → list_any (int_eq (id y)) (map id (filter g (x ∷ xs))) ≡ g y
      step true e = rw (e, turned (id x) (id y) above.0) h.0
      step false e = rw e h.0

  pub named_by : (g : X → Bool) (xs : List X) → Apart xs
      → AllByRecursion (λ x. list_any (int_eq (id x)) (map id (filter g xs)) ≡ g x) xs
  named_by g [] apart = tt
  named_by g (x ∷ xs) apart = (
    step (g x) refl,
    later_named g x xs xs apart.0 (named_by g xs apart.1),
  )
    where
      step : (b : Bool) → g x ≡ b → list_any (int_eq (id x)) (map id (filter g (x ∷ xs))) ≡ g x
      step true e = rw (e, int_itself (id x))
      step false e = rw e (none_named g (id x) xs apart.0)

  -- the rows that do not pass
  taken_rows : (g : X → Bool) (xs : List X) (ids : List ℤ) → Apart xs
      → IsPermutation (map id (filter g xs)) ids → without_all (map stored xs) ids
      ≡ map stored (filter (λ x. not (g x)) xs)
  taken_rows g xs ids apart same =
      without_all_map ids xs ∙ ap (map stored) (filter_on (λ x. not (list_any (int_eq (id x)) ids))
      (λ x. not (g x)) xs
      (all_weaker _ (λ x. not (list_any (int_eq (id x)) ids) ≡ not (g x))
      (λ x h. ap not (sym (list_any-IsPermutation (int_eq (id x)) _ ids same) ∙ h)) xs
      (named_by g xs apart)))

  pub taken_out : (cells : Row → Row) → ((r : Row) → rowid (cells r) ≡ rowid r)
      → (g : X → Bool) (xs : List X) (rows : List Row) (ids : List ℤ) → Apart xs
      → IsPermutation (map stored xs) (map cells rows)
      → IsPermutation (map id (filter g xs)) ids
      → IsPermutation (map stored (filter (λ x. not (g x)) xs))
      (map cells (without_all rows ids))
  taken_out cells same g xs rows ids apart has named =
      rw (← taken_rows g xs ids apart named, cells_without_all cells same rows ids)
      (permuted_without_all _ _ ids has)

  -- ---- ids are unique

  no_other : (x : X) (xs : List X) → AllByRecursion (λ y. int_eq (id x) (id y) ≡ false) xs
      → filter (λ y. int_eq (id y) (id x)) xs ≡ []
  no_other x [] h = refl
  no_other x (y ∷ ys) h = rw (turned (id x) (id y) h.0) (no_other x ys h.1)

  pub only_one : (xs : List X) (x : X) → Apart xs → Has xs x → filter (λ y. int_eq (id y) (id x)) xs
      ≡ x ∷ []
  only_one [] x apart h = absurd h
  only_one (y ∷ ys) x apart (inl same) =
      subst (λ k. filter (λ v. int_eq (id v) (id k)) (y ∷ ys) ≡ k ∷ []) (sym same)
      (rw (int_itself (id y)) (ap (λ l. y ∷ l) (no_other y ys apart.0)))
  only_one (y ∷ ys) x apart (inr h) =
      rw (all_has (λ z. int_eq (id y) (id z) ≡ false) ys x apart.0 h) (only_one ys x apart.1 h)

  pub same_item : (xs : List X) (x y : X) → Apart xs → Has xs x → Has xs y → id x ≡ id y → x ≡ y
  same_item [] x y apart h k e = absurd h
  same_item (z ∷ zs) x y apart (inl a) (inl b) e = a ∙ sym b
  same_item (z ∷ zs) x y apart (inl a) (inr k) e =
      absurd (true≢false (sym (ap (λ i. int_eq i (id y)) (ap id (sym a) ∙ e) ∙ int_itself (id y))
      ∙ all_has (λ v. int_eq (id z) (id v) ≡ false) zs y apart.0 k))
  same_item (z ∷ zs) x y apart (inr h) (inl b) e =
      absurd (true≢false (sym (ap (λ i. int_eq i (id x)) (ap id (sym b) ∙ sym e)
      ∙ int_itself (id x)) ∙ all_has (λ v. int_eq (id z) (id v) ≡ false) zs x apart.0 h))
  same_item (z ∷ zs) x y apart (inr h) (inr k) e = same_item zs x y apart.1 h k e

  -- ---- one row is updated

  module _ (new : X) where
    abbrev pub with_new : X → X
    with_new x = if int_eq (id x) (id new) then new else x

    pub unchanged : (xs : List X) → AllByRecursion (λ y. int_eq (id new) (id y) ≡ false) xs
        → map with_new xs ≡ xs
    unchanged [] h = refl
    unchanged (y ∷ ys) h = rw (turned (id new) (id y) h.0) (ap (λ l. y ∷ l) (unchanged ys h.1))

    all_kept : (xs : List X) → AllByRecursion (λ y. int_eq (id new) (id y) ≡ false) xs
        → without_rowid (id new) (map stored xs) ≡ map stored xs
    all_kept [] h = refl
    all_kept (y ∷ ys) h = rw (has_stored (id new) y ∙ turned (id new) (id y) h.0)
        (ap (λ l. stored y ∷ l) (all_kept ys h.1))

    replaced_rows : (xs : List X) (x : X) → Apart xs → Has xs x → id x ≡ id new
        → IsPermutation (map stored (map with_new xs)) (stored new ∷ without_rowid (id new)
        (map stored xs))
    replaced_rows [] x apart h is = absurd h
    replaced_rows (y ∷ ys) x apart (inl same) is =
        let here : id y ≡ id new = ap id (sym same) ∙ is in
        let others = subst (λ i. AllByRecursion (λ z. int_eq i (id z) ≡ false) ys) here apart.0 in
        rw (
          has_stored (id new) y ∙ ap (λ i. int_eq i (id new)) here ∙ int_itself (id new),
          all_kept ys others,
          ap (λ i. int_eq i (id new)) here ∙ int_itself (id new),
          unchanged ys others,
        )
        (IsPermutation-refl (stored new ∷ map stored ys))
    replaced_rows (y ∷ ys) x apart (inr h) is =
        let other : int_eq (id y) (id new) ≡ false =
        subst (λ i. int_eq (id y) i ≡ false) is (all_has (λ z. int_eq (id y) (id z) ≡ false) ys
        x apart.0 h) in
        rw (has_stored (id new) y ∙ other, other)
        (IsPermutation-trans _ _ _ (IsPermutation-cons (stored y) _ _ (replaced_rows ys x apart.1 h
        is)) (IsPermutation-middle (stored y ∷ []) (stored new)
        (without_rowid (id new) (map stored ys))))

    -- the row that replaced the one with its id
    pub replaced : (cells : Row → Row) → ((r : Row) → rowid (cells r) ≡ rowid r) → (row : Row)
        → cells row ≡ stored new → (xs : List X) (x : X) (rows : List Row) → Apart xs → Has xs x
        → id x ≡ id new
        → IsPermutation (map stored xs) (map cells rows)
        → is_taken (without_rowid (id new) rows) row ≡ false
        → IsPermutation (map stored (map with_new xs))
        (map cells (put_row row (without_rowid (id new) rows)))
    replaced cells same row shows xs x rows apart there is has free =
        let left : IsPermutation (without_rowid (id new) (map stored xs))
        (map cells (without_rowid (id new) rows)) =
        rw (cells_without cells same (id new) rows)
        (IsPermutation-filter (λ r. not (has_rowid (id new) r)) _ _ has) in
        let put : IsPermutation (stored new ∷ map cells (without_rowid (id new) rows))
        (map cells (put_row row (without_rowid (id new) rows))) =
        subst (λ first. IsPermutation (first ∷ map cells (without_rowid (id new) rows))
        (map cells (put_row row (without_rowid (id new) rows)))) shows
        (IsPermutation-map cells _ _ (put_free row _ free)) in
        IsPermutation-trans _ _ _ (replaced_rows xs x apart there is)
        (IsPermutation-trans _ _ _ (IsPermutation-cons (stored new) _ _ left) put)

  -- a row that was inserted
  pub put_beside : (cells : Row → Row) (row : Row) (new : X) → cells row ≡ stored new
      → (xs : List X) (rows : List Row) → IsPermutation (map stored xs) (map cells rows)
      → is_taken rows row ≡ false
      → IsPermutation (stored new ∷ map stored xs) (map cells (put_row row rows))
  put_beside cells row new shows xs rows has free =
      IsPermutation-trans _ _ _ (IsPermutation-cons (stored new) _ _ has)
      (subst (λ first. IsPermutation (first ∷ map cells rows) (map cells (put_row row rows))) shows
      (IsPermutation-map cells _ _ (put_free row rows free)))
