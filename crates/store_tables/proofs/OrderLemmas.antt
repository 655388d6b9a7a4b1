-- The sorted result of a query over one table with ORDER BY, for any SQL text.
use Rattle.std.proofs.Common.{inl, inr, ◌≡◌, ℕ, Bool, false, List, [], ◌∷◌, ◌+◌, ◌<◌, map, filter}
use Rattle.std.proofs.Common.{take, length, slice_index_or, IsPermutation, IfOk, Ok, Err, Result}
use Rattle.std.proofs.Common.{Some, is_lt, refl, sym, ap, ap₂, subst, ◌∙◌, arith}
use Rattle.std.specs.declared.cmp.Ordering.{Ordering}
use Rattle.std.specs.declared.alloc.Global.{Global}
use Rattle.std.specs.Prelude.{Vec}
use Rattle.std.specs.List.Sorted.{IsSorted}
use Rattle.std.proofs.lemmas.List.{get_or-map, length-map}
use Rattle.std.proofs.lemmas.List.Sorted.{IsPermutation-map, IsPermutation-trans}
use Rattle.std.proofs.lemmas.List.Sorted.{length_permutation}
use Rattle.std.proofs.lemmas.List.{nil_from_length}
use Rattle.sqlite.specs.declared.error.Error.{Error}
use Rattle.sqlite.specs.declared.types.Value.TheVariants.{Null}
use Rattle.sqlite.specs.Command.TheVariants.{Select}
use Rattle.sqlite.specs.Listing.{understood, reads_listing}
use Rattle.sqlite.specs.Order.{Row}
use Rattle.sqlite.specs.Program.{overlay}
use Rattle.sqlite.specs.Query.{Query, Output, IsSureAnswer, IsAnswer, as_count, limited, output}
use Rattle.sqlite.specs.Query.{output_cmp}
use Rattle.sqlite.specs.State.{State, Shown, QueriesRow, FailsToQuery}
use Rattle.sqlite.specs.Term.{Term, eval}
use Rattle.sqlite.specs.Tree.{Trees}
use Rattle.sqlite.proofs.Callers.{IsPlain, command_of, first_as, reads_as}
use Rattle.sqlite_trees.proofs.ListLemmas.{map-map, filter-map, pull_back, IsPermutation-filter}
use Rattle.sqlite_value.specs.declared.keys.Key.{Key}
use Rattle.store_tables.specs.QueryResults.{AreRowsInOrder, AreFirstRowsInOrder, FindsFirstRow}
use Rattle.store_tables.specs.Tables.{book_schema}
use Rattle.store_tables.proofs.Cells.{shaped}
use Rattle.store_tables.proofs.Lookups.{never_none}
use Rattle.store_tables.proofs.Picks.{passes, flat_filter}
use Rattle.store_tables.proofs.Queries.{ordering}

module _ {X : Type 0} (tree : ℕ) (tests project : List Term) (order : List (Term × Key)) (params :
    Row)
    (cells : Row → Row) (stored key show : X → Row) (test : X → Bool) (compare : X → X
    → Ordering) where
  abbrev pub q : Query
  q = ordering tree tests project order

  abbrev pub p : Row → Bool
  p = passes tree tests project (λ _. []) params

  abbrev pub shape : Row → Output
  shape r = output q (params ∷ r ∷ [])

  abbrev pub out : X → Output
  out x = (key x, show x)

  module _ (tested : (r : Row) → p (cells r) ≡ p r) (same_shape : (r : Row)
      → shape (cells r) ≡ shape r)
      (passing : (x : X) → p (stored x) ≡ test x) (showing : (x : X) → shape (stored x) ≡ out x)
      (comparing : (a b : X) → output_cmp q (out a) (out b) ≡ compare a b) where
    sorted_back : (ys : List X) → IsSorted (output_cmp q) (map out ys) → IsSorted compare ys
    sorted_back ys h k d low below =
        let at = λ (i : ℕ) (within : i < length ys). get_or-map out ys i d (out d) within in
        ap is_lt (sym (comparing (slice_index_or ys (k + 1) d) (slice_index_or ys k d)))
        ∙ ap₂ (λ a b. is_lt (output_cmp q a b)) (sym (at (k + 1) below))
        (sym (at k (omega (arith, below))))
        ∙ h k (out d) low (subst (λ n. k + 1 < n) (sym (length-map ys out)) below)

    answer_in_order : (db : Trees) (all : List X)
        → IsPermutation (map stored all) (map cells (db tree)) → (rows : List Row)
        → IsAnswer q db params rows → AreRowsInOrder compare show (filter test all) rows
    answer_in_order db all has rows a =
        let xs = filter test all in
        let picked : filter p (map stored all) ≡ map stored xs = filter-map p stored all
        ∙ (λ i. map stored (filter (λ x. passing x i) all)) in
        let staged : a.staged ≡ map (λ r. params ∷ r ∷ []) (filter p (db tree)) = a.grouped
        ∙ flat_filter p (λ r. params ∷ r ∷ []) (db tree) in
        let kept : a.kept ≡ map shape (filter p (map cells (db tree))) = a.distinct
        ∙ ap (map (output q)) staged ∙ map-map (output q) (λ r. params ∷ r ∷ [])
        (filter p (db tree)) ∙ shaped cells p shape tested same_shape (db tree) in
        let outs : IsPermutation (map out xs) a.ordered =
        IsPermutation-trans _ _ _ (subst (λ l. IsPermutation l a.kept) (ap (map shape) picked
        ∙ map-map shape stored xs ∙ (λ i. map (λ x. showing x i) xs))
        (subst (IsPermutation (map shape (filter p (map stored all)))) (sym kept)
        (IsPermutation-map shape _ _ (IsPermutation-filter p _ _ has)))) a.same in
        let back = pull_back out (map out xs) a.ordered outs xs refl in
        record {
          ordered = back.0;
          same = back.1;
          rises = sorted_back back.0 (subst (IsSorted (output_cmp q)) back.2 a.sorted);
          shown = a.shown ∙ ap (map (λ (o : Output). o.1)) back.2
              ∙ map-map (λ (o : Output). o.1) out back.0;
        }

    pub in_order : (db : Trees) (all : List X)
        → IsPermutation (map stored all) (map cells (db tree)) → (rows : List Row)
        → IsSureAnswer q db params rows → AreRowsInOrder compare show (filter test all) rows
    in_order db all has rows h = answer_in_order db all has rows (h Null)

    fronts : (most : ℕ) (first rows : List Row) (xs : List X) → first ≡ take most rows
        → AreRowsInOrder compare show xs rows → AreFirstRowsInOrder compare show most xs first
    fronts most first rows xs front h = record {
      ordered = h.ordered;
      same = h.same;
      rises = h.rises;
      first = front ∙ ap (take most) h.shown;
    }

    module _ (sql : List ℕ) (names : List (List ℕ))
        (is : (command_of (understood book_schema sql) ≡ Select (record { lets = []; body = q })
        names) × (reads_listing book_schema sql ≡ false) × IsPlain (understood book_schema sql))
        (over : (db : Trees) → overlay db [] tree ≡ db tree)
        (s : State) (all : List X) (schema : s.now.schema ≡ book_schema) (has :
        IsPermutation (map stored all) (map cells (s.now.trees tree))) where
      held : IsPermutation (map stored all) (map cells (overlay s.now.trees [] tree))
      held = subst (λ rows. IsPermutation (map stored all) (map cells rows))
          (sym (over s.now.trees)) has

      -- the whole result
      pub all_rows : (new : State) (rows : List Row) → Shown sql params s new rows
          → AreRowsInOrder compare show (filter test all) rows
      all_rows new rows h = in_order (overlay s.now.trees []) all held rows
          (reads_as sql params s new book_schema schema _ is.0 is.2 is.1 rows h).answer

      pub all_of : (new : State) (r : Result (Vec Row Global) Error)
          → IfOk r (λ rows. Shown sql params s new rows.items)
          → IfOk r (λ rows. AreRowsInOrder compare show (filter test all) rows.items)
      all_of new (Ok rows) h = all_rows new rows.items h
      all_of new (Err e) h = tt

      pub first_row : (new : State) (r : Result Row Error) → QueriesRow sql params s new r
          → FindsFirstRow compare show (filter test all) r
      unfolding QueriesRow
      first_row new (Ok row) h =
          let got = (first_as sql _ s new book_schema schema _ is.0 is.2 is.1 row h).1 in
          fronts 1 (row ∷ []) (row ∷ got.0) _ refl (in_order (overlay s.now.trees []) all held
          (row ∷ got.0) got.1)
      first_row new (Err e) (inl h) = λ none. absurd (never_none sql _ s new book_schema schema _ _
          is.0 is.2 (subst (FailsToQuery sql _ s new) none h))
      first_row new (Err e) (inr h) = λ none.
          let got = all_rows new [] h.1 in
          nil_from_length _ (sym (length_permutation _ _ got.same)
          ∙ sym (length-map got.ordered show) ∙ ap length (sym got.shown))

    -- the same with a LIMIT
    module _ (limit : Term) (most : ℕ) (limits : as_count (eval limit (params ∷ [])) ≡ Some most)
        (sql : List ℕ) (names : List (List ℕ))
        (is : (command_of (understood book_schema sql) ≡ Select (record {
          lets = [];
          body = record q { limit = limit };
        }) names) × (reads_listing book_schema sql ≡ false)
        × IsPlain (understood book_schema sql))
        (over : (db : Trees) → overlay db [] tree ≡ db tree)
        (s : State) (all : List X) (schema : s.now.schema ≡ book_schema) (has :
        IsPermutation (map stored all) (map cells (s.now.trees tree))) where
      first_in_order : (db : Trees) → IsPermutation (map stored all) (map cells (db tree))
          → (rows : List Row) → IsAnswer (record q { limit = limit }) db params rows
          → AreFirstRowsInOrder compare show most (filter test all) rows
      first_in_order db there rows a =
          let whole : List Row = map (λ (o : Output). o.1) a.ordered in
          let unlimited : IsAnswer q db params whole = record {
            staged = a.staged;
            grouped = a.grouped;
            kept = a.kept;
            distinct = a.distinct;
            ordered = a.ordered;
            same = a.same;
            sorted = a.sorted;
            shown = refl;
          } in
          fronts most rows whole (filter test all) (a.shown ∙ ap (λ n. limited n whole) limits)
          (answer_in_order db all there whole unlimited)

      pub first_of : (new : State) (r : Result (Vec Row Global) Error)
          → IfOk r (λ rows. Shown sql params s new rows.items)
          → IfOk r (λ rows. AreFirstRowsInOrder compare show most (filter test all) rows.items)
      first_of new (Ok rows) h =
          let held : IsPermutation (map stored all) (map cells (overlay s.now.trees [] tree)) =
          subst (λ stored_rows. IsPermutation (map stored all) (map cells stored_rows))
          (sym (over s.now.trees)) has in
          first_in_order (overlay s.now.trees []) held rows.items
          ((reads_as sql params s new book_schema schema _ is.0 is.2 is.1 rows.items h).answer
          Null)
      first_of new (Err e) h = tt
