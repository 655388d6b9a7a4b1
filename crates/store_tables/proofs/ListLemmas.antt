-- The result of a query over a whole table.
use Rattle.std.proofs.Common.{◌≡◌, ℕ, true, false, List, [], ◌∷◌, map, filter, IsPermutation}
use Rattle.std.proofs.Common.{Ordering, sym, IfOk, Ok, Err, Result, refl, subst, ◌∙◌}
use Rattle.std.specs.declared.alloc.Global.{Global}
use Rattle.std.specs.Prelude.{Vec}
use Rattle.sqlite.specs.declared.error.Error.{Error}
use Rattle.sqlite.specs.declared.types.Value.TheVariants.{Text}
use Rattle.sqlite.specs.Command.TheVariants.{Select}
use Rattle.sqlite.specs.Listing.{understood, reads_listing}
use Rattle.sqlite.specs.Order.{Row, column}
use Rattle.std.proofs.lemmas.List.Sorted.{IsPermutation-refl, IsPermutation-map}
use Rattle.sqlite.specs.Program.{overlay}
use Rattle.sqlite.specs.Query.{output_cmp}
use Rattle.sqlite.specs.State.{State, Shown}
use Rattle.sqlite.specs.Term.{Term, eval_all}
use Rattle.sqlite.specs.Tree.{Trees}
use Rattle.sqlite.proofs.Callers.{IsPlain, command_of, reads_as}
use Rattle.sqlite_value.proofs.OrderLemmas.{value_cmp-Text, then-Equal}
use Rattle.store_tables.specs.QueryResults.{AreRowsInOrder}
use Rattle.store_tables.specs.Books.{BookRow, book_row, book_cells, book_shown, book_listed}
use Rattle.store_tables.specs.Books.{by_name, HoldBooks}
use Rattle.store_tables.specs.Tables.{book_schema}
use Rattle.store_tables.proofs.CountLemmas.{every}
use Rattle.store_tables.proofs.OrderLemmas.{all_of, all_rows}
use Rattle.store_tables.proofs.Picks.{picked}
use Rattle.store_tables.proofs.Queries.{picks, books_text, books_query, books_terms}
use Rattle.store_tables.proofs.Texts.{books_is}

module _ (sql : List ℕ) (tree : ℕ) (project : List Term) (names : List (List ℕ))
    (is : (command_of (understood book_schema sql) ≡ Select (record {
      lets = [];
      body = picks tree [] project;
    }) names) × (reads_listing book_schema sql ≡ false)
    × IsPlain (understood book_schema sql))
    (over : (db : Trees) → overlay db [] tree ≡ db tree) where
  -- each row of the table, in any order
  pub lists_rows : (old new : State) (r : Result (Vec Row Global) Error)
      → old.now.schema ≡ book_schema → IfOk r (λ rows. Shown sql [] old new rows.items)
      → IfOk r (λ rows. IsPermutation (map (λ row. eval_all project ([] ∷ row ∷ []))
      (old.now.trees tree)) rows.items)
  lists_rows old new (Ok rows) schema h =
      let answer = (reads_as sql [] old new book_schema schema _ is.0 is.2 is.1 rows.items
      h).answer in
      subst (λ l. IsPermutation (map (λ row. eval_all project ([] ∷ row ∷ [])) l) rows.items)
      (every (overlay old.now.trees [] tree) ∙ over old.now.trees)
      (picked tree [] project (overlay old.now.trees []) [] rows.items answer)
  lists_rows old new (Err e) schema h = tt

-- the books sorted by name
abbrev name_key : BookRow → Row
name_key b = Text b.name ∷ []

by_key : (a b : BookRow) → output_cmp books_query (name_key a, book_shown a) (
  name_key b,
  book_shown b,
) ≡ by_name a b
by_key a b = then-Equal _ ∙ value_cmp-Text a.name b.name

pub books_in_order : (old new : State) (bs : List BookRow) (r : Result (Vec Row Global) Error)
    → old.now.schema ≡ book_schema → HoldBooks (old.now.trees 2) bs
    → IfOk r (λ rows. Shown books_text [] old new rows.items)
    → IfOk r (λ rows. AreRowsInOrder by_name book_shown bs rows.items)
books_in_order old new bs r schema has h =
    subst (λ xs. IfOk r (λ rows. AreRowsInOrder by_name book_shown xs rows.items)) (every bs)
    (all_of 2 [] books_terms books_query.order [] book_cells book_row name_key book_shown
    (λ _. true) by_name
    (λ _. refl) (λ _. refl) (λ _. refl) (λ _. refl) by_key books_text _ books_is (λ _. refl) old bs
    schema has new r h)

-- each row of the table, whatever its columns hold
pub books_listed : (old new : State) (r : Result (Vec Row Global) Error)
    → old.now.schema ≡ book_schema → IfOk r (λ rows. Shown books_text [] old new rows.items)
    → IfOk r (λ rows. IsPermutation (map book_listed (old.now.trees 2)) rows.items)
books_listed old new (Err e) schema h = tt
books_listed old new (Ok rows) schema h =
    let it : AreRowsInOrder by_row book_listed (filter (λ _. true) (old.now.trees 2)) rows.items =
    all_rows 2 [] books_terms books_query.order [] (λ r. r) (λ r. r) row_key book_listed (λ _. true)
    by_row
    (λ _. refl) (λ _. refl) (λ _. refl) (λ _. refl) (λ _ _. refl) books_text _ books_is (λ _. refl)
    old (old.now.trees 2) schema (IsPermutation-refl _) new rows.items h in
    subst (λ l. IsPermutation (map book_listed l) rows.items) (every (old.now.trees 2))
    (subst (IsPermutation (map book_listed (filter (λ _. true) (old.now.trees 2)))) (sym it.shown)
    (IsPermutation-map book_listed _ _ it.same))
  where
    row_key : Row → Row
    row_key r = column r 2 ∷ []

    by_row : Row → Row → Ordering
    by_row a b = output_cmp books_query (row_key a, book_listed a) (row_key b, book_listed b)
