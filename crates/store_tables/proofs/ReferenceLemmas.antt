-- Each row refers to a book, after a write too.
use Rattle.std.proofs.Common.{◌≡◌, ◌≢◌, ◌⊎◌, inl, inr, ℕ, ℤ, Bool, true, false, ◌&&◌, List, [], ◌∷◌}
use Rattle.std.proofs.Common.{Some, refl, sym, ap, subst, subst₂, ◌∙◌}
use Rattle.std.specs.List.{AllByRecursion, list_any}
use Rattle.std.proofs.lemmas.Bool.{cases_eq, or_cases, or_left, or_right}
use Rattle.sqlite.specs.Order.{Row, column}
use Rattle.sqlite.specs.Tree.{Trees}
use Rattle.sqlite.specs.declared.types.Value.TheVariants.{Int}
use Rattle.sqlite_rules.specs.Lists.{Has}
use Rattle.sqlite_rules.proofs.ListLemmas.{all_has, some_has, some_from}
use Rattle.sqlite_rules.proofs.RuleLemmas.{refers_from, refers_at, same_table}
use Rattle.sqlite_schema.specs.declared.schema.Among.TheVariants.{All}
use Rattle.sqlite_schema.specs.declared.schema.Constraint.TheVariants.{ForeignKey}
use Rattle.sqlite_schema.specs.declared.schema.Reference.{Reference}
use Rattle.sqlite_schema.specs.declared.schema.Table.{Table}
use Rattle.sqlite_schema.specs.Rules.{Obeys, ParentKey, Refers, agree, equal, has_null, has_parent}
use Rattle.sqlite_schema.specs.Rules.{is_held, parent_key}
use Rattle.sqlite_sql.specs.declared.ops.CompareOp.TheVariants.{Eq}
use Rattle.sqlite_tied.specs.Compute.{everything}
use Rattle.sqlite_typed.proofs.TestLemmas.{at_ints, last_term}
use Rattle.sqlite_value.specs.Keys.{first_key, plain}
use Rattle.store_tables.specs.Books.{BookRow, HoldBooks, book_cells, book_row, has_id}
use Rattle.store_tables.specs.Tables.{book_schema, book_reference}
use Rattle.store_tables.proofs.Cells.{cells_has}
use Rattle.store_tables.proofs.EditLemmas.{tables_apart}
use Rattle.store_tables.proofs.FreshLemmas.{has_permuted, has_stored_row}
use Rattle.store_tables.proofs.KeyedRows.{int_itself, same_int}

abbrev pub book_key : ParentKey
book_key = (2, 0 ∷ [], plain)

key_is : (c : ℕ) → parent_key book_schema.tables (book_reference c) ≡ Some book_key
unfolding everything
key_is c = refl

-- each reference is to the id of a book
reference_is : (t : Table) (ref : Reference) → Has book_schema.tables t → Has t.references ref
    → (c : ℕ) × (ref ≡ book_reference c)
reference_is t ref listed known = go listed
  where
    one : (c : ℕ) → Has (book_reference c ∷ []) ref → (c : ℕ) × (ref ≡ book_reference c)
    one c (inl e) = (c, e)
    one c (inr h) = absurd h

    go : Has book_schema.tables t → (c : ℕ) × (ref ≡ book_reference c)
    go (inl e) = absurd (subst (λ (u : Table). Has u.references ref) e known)
    go (inr (inl e)) = absurd (subst (λ (u : Table). Has u.references ref) e known)
    go (inr (inr (inl e))) = one 1 (subst (λ (u : Table). Has u.references ref) e known)
    go (inr (inr (inr (inl e)))) = one 1 (subst (λ (u : Table). Has u.references ref) e known)
    go (inr (inr (inr (inr (inl e))))) = one 0 (subst (λ (u : Table). Has u.references ref) e known)
    go (inr (inr (inr (inr (inr h))))) = absurd h

abbrev is_parent : ℕ → Row → Row → Bool
is_parent c row p = agree plain (0 ∷ []) p (c ∷ []) row

same_parent : (c : ℕ) (row p q : Row) → column q 0 ≡ column p 0 → is_parent c row p ≡ true
    → is_parent c row q ≡ true
same_parent c row p q same h = subst (λ v. (equal (first_key plain).collation v (column row c)
    && true) ≡ true) (sym same) h

-- a row has its parent where the book is there
pub parent_from : (db : Trees) (c : ℕ) (row p : Row) → Has (db 2) p → is_parent c row p ≡ true
    → has_parent book_schema.tables db row (book_reference c) ≡ true
parent_from db c row p there h = or_right _ _ (subst (λ k. is_held db (c ∷ []) row k ≡ true)
    (sym (key_is c)) (some_from _ (db 2) p there h))

-- each book is there still, under its id
abbrev pub KeepBooks : List Row → List Row → Type 0
KeepBooks old new = (p : Row) → Has old p → (q : Row) × Has new q × (column q 0 ≡ column p 0)

module _ (old new : Trees) (parents : KeepBooks (old 2) (new 2)) where
  kept : (c : ℕ) (row : Row) → has_parent book_schema.tables old row (book_reference c) ≡ true
      → has_parent book_schema.tables new row (book_reference c) ≡ true
  kept c row h = elim (or_cases (has_null (c ∷ []) row) _ h) [
    | inl null ↦ or_left _ _ null
    | inr held ↦
        let it = some_has (is_parent c row) (old 2) (subst (λ k. is_held old (c ∷ []) row k ≡ true)
        (key_is c) held) in
        let now = parents it.0 it.1 in
        parent_from new c row now.0 now.1 (same_parent c row it.0 now.0 now.2 it.2)
  ]

  pub refers_after : (table : Table) → Has book_schema.tables table
      → AllByRecursion (λ t. t.tree ≢ table.tree → new t.tree ≡ old t.tree) book_schema.tables
      → Obeys book_schema old
      → ((r : Row) → Has (new table.tree) r → Has (old table.tree) r ⊎ ((ref : Reference)
      → Has table.references ref → has_parent book_schema.tables new r ref ≡ true))
      → Refers All book_schema new
  refers_after table listed others obeys rows =
      refers_from All book_schema new (λ t ref row on known is there.
      let c = reference_is t ref on known in
      let before = λ (was : Has (old t.tree) row). subst (λ k. has_parent book_schema.tables new row
      k ≡ true) (sym c.1)
      (kept c.0 row (subst (λ k. has_parent book_schema.tables old row k ≡ true) c.1
      (refers_at All book_schema old t row ref (obeys.rules ForeignKey) on was known refl))) in
      elim (cases_eq t.tree table.tree) [
        | inl same ↦
            let it = same_table book_schema.tables t table tables_apart on listed same in
            elim (rows row (subst (λ (u : Table). Has (new u.tree) row) it there)) [
              | inl was ↦ before (subst (λ (u : Table). Has (old u.tree) row) (sym it) was)
              | inr fresh ↦ fresh ref (subst (λ (u : Table). Has u.references ref) it known)
            ]
        | inr other ↦ before (subst (λ l. Has l row) (all_has (λ (u : Table). u.tree ≢ table.tree
            → new u.tree ≡ old u.tree) book_schema.tables t others on other) there)
      ])

-- the same where the table of books is as it was
pub same_books : (old new : Trees) → new 2 ≡ old 2 → KeepBooks (old 2) (new 2)
same_books old new same p there = (p, subst (λ l. Has l p) (sym same) there, refl)

-- ---- the book of a new row

module _ (db : Trees) (bs : List BookRow) (holds : HoldBooks (db 2) bs) (book : ℤ) (some :
    list_any (has_id book) bs ≡ true) where
  -- the stored row of the book
  row_there : (p : Row) × Has (db 2) p × (column p 0 ≡ Int book)
  row_there =
      let b = some_has (has_id book) bs some in
      let there = has_permuted _ _ (book_row b.0) holds (has_stored_row book_row bs b.0 b.1) in
      let it = cells_has book_cells (λ _. refl) (db 2) (book_row b.0) there in
      (it.0, it.1, ap (λ (r : Row). column r 0) (sym it.2) ∙ ap Int (same_int b.0.id book b.2))

  -- a row with one reference, which names the book
  pub refers_there : (c : ℕ) (row : Row) → column row c ≡ Int book → (ref : Reference)
      → Has (book_reference c ∷ []) ref → has_parent book_schema.tables db row ref ≡ true
  unfolding first_key
  refers_there c row at ref (inl e) =
      let it = row_there in
      let same : (equal (first_key plain).collation (Int book) (Int book) && true) ≡ true =
      last_term (at_ints false Eq book book) ∙ int_itself book in
      subst (λ k. has_parent book_schema.tables db row k ≡ true) (sym e)
      (parent_from db c row it.0 it.1
      (subst₂ (λ v w. (equal (first_key plain).collation v w && true) ≡ true) (sym it.2) (sym at)
      same))
  refers_there c row at ref (inr h) = absurd h
