-- The result of a query over one table.
use Rattle.std.proofs.Common.{◌≡◌, ℕ, Bool, true, false, cond, List, [], ◌∷◌, map, filter, refl}
use Rattle.std.proofs.Common.{sym, ap, subst, ◌∙◌}
use Rattle.std.specs.List.{flat_map, list_all}
use Rattle.std.specs.List.Sorted.{IsPermutation}
use Rattle.std.proofs.lemmas.List.Sorted.{IsPermutation-map}
use Rattle.sqlite.specs.declared.types.Value.TheVariants.{Null}
use Rattle.sqlite.specs.Order.{Row}
use Rattle.sqlite.specs.Tree.{Trees}
use Rattle.sqlite.specs.Term.{Term, eval_all, holds}
use Rattle.sqlite.specs.Query.{IsSureAnswer, IsAnswer, output, Output}
use Rattle.sqlite_trees.proofs.ListLemmas.{map-map}
use Rattle.store_tables.proofs.Queries.{picks}

pub flat_filter : {A B : Type 0} (p : A → Bool) (f : A → B) (xs : List A)
    → flat_map (λ x. cond (p x) (f x ∷ []) []) xs ≡ map f (filter p xs)
flat_filter p f [] = refl
flat_filter p f (x ∷ xs) = step (p x) refl (flat_filter p f xs)
  where
    step : (b : Bool) → p x ≡ b → flat_map (λ x. cond (p x) (f x ∷ []) []) xs ≡ map f (filter p xs)
        → flat_map (λ x. cond (p x) (f x ∷ []) []) (x ∷ xs) ≡ map f (filter p (x ∷ xs))
    step true e more = rw e (ap (λ l. f x ∷ l) more)
    step false e more = rw e more

module _ (tree : ℕ) (tests project : List Term) (db : Trees) (params : Row) where
  abbrev pub passes : Row → Bool
  passes r = list_all (holds (params ∷ r ∷ [])) tests

  abbrev pub shows : Row → Row
  shows r = eval_all project (params ∷ r ∷ [])

  pub picked : (rows : List Row) → IsSureAnswer (picks tree tests project) db params rows
      → IsPermutation (map shows (filter passes (db tree))) rows
  picked rows h =
      let a : IsAnswer (picks tree tests project) db params rows = h Null in
      let staged : a.staged ≡ map (λ r. params ∷ r ∷ []) (filter passes (db tree)) = a.grouped
      ∙ flat_filter passes (λ r. params ∷ r ∷ []) (db tree) in
      let kept : a.kept ≡ map (output (picks tree tests project))
      (map (λ r. params ∷ r ∷ []) (filter passes (db tree))) = a.distinct
      ∙ ap (map (output (picks tree tests project))) staged in
      let last : map (λ (o : Output). o.1) a.kept ≡ map shows (filter passes (db tree)) =
      ap (map (λ (o : Output). o.1)) kept
      ∙ map-map (λ (o : Output). o.1) (output (picks tree tests project))
      (map (λ r. params ∷ r ∷ []) (filter passes (db tree)))
      ∙ map-map _ (λ r. params ∷ r ∷ []) (filter passes (db tree)) in
      subst (λ front. IsPermutation front rows) last
      (subst (IsPermutation (map (λ (o : Output). o.1) a.kept)) (sym a.shown)
      (IsPermutation-map (λ (o : Output). o.1) a.kept a.ordered a.same))
