-- Rows that are read column by column.
use Rattle.std.proofs.Common.{◌≡◌, inl, inr, ℤ, Bool, not, List, [], ◌∷◌, map, filter, refl, sym}
use Rattle.std.proofs.Common.{ap, ◌∙◌}
use Rattle.sqlite.specs.Order.{Row, value_cmp}
use Rattle.std.proofs.Common.{is_eq}
use Rattle.std.proofs.lemmas.List.Elements.{filter_agree}
use Rattle.sqlite.specs.declared.types.Value.TheVariants.{Int}
use Rattle.sqlite_rules.specs.Lists.{Has}
use Rattle.sqlite_trees.specs.Tree.{rowid, has_rowid, without_rowid}
use Rattle.sqlite_trees.proofs.ListLemmas.{map-map, filter-map}

-- tests and results of a row depend on its cells alone
pub shaped : {B : Type 0} (cells : Row → Row) (p : Row → Bool) (f : Row → B)
    → ((r : Row) → p (cells r) ≡ p r) → ((r : Row) → f (cells r) ≡ f r) → (rows : List Row)
    → map f (filter p rows) ≡ map f (filter p (map cells rows))
shaped cells p f tests shows rows =
    sym (ap (map f) (filter-map p cells rows ∙ ap (map cells) (filter_agree _ p tests rows))
    ∙ map-map f cells (filter p rows) ∙ (λ i. map (λ r. shows r i) (filter p rows)))

module _ (cells : Row → Row) (same_id : (r : Row) → rowid (cells r) ≡ rowid r) where
  pub cells_without : (id : ℤ) (rows : List Row) → map cells (without_rowid id rows)
      ≡ without_rowid id (map cells rows)
  cells_without id rows = sym (filter-map (λ r. not (has_rowid id r)) cells rows
      ∙ ap (map cells) (filter_agree (λ r. not (has_rowid id (cells r))) (λ r. not (has_rowid id r))
      (λ r. ap (λ v. not (is_eq (value_cmp v (Int id)))) (same_id r)) rows))

  pub has_cells : (rows : List Row) (r : Row) → Has rows r → Has (map cells rows) (cells r)
  has_cells [] r h = h
  has_cells (x ∷ xs) r (inl e) = inl (ap cells e)
  has_cells (x ∷ xs) r (inr h) = inr (has_cells xs r h)

  pub cells_has : (rows : List Row) (c : Row) → Has (map cells rows) c → (r : Row) × Has rows r
      × (c ≡ cells r)
  cells_has [] c h = absurd h
  cells_has (x ∷ xs) c (inl e) = (x, inl refl, e)
  cells_has (x ∷ xs) c (inr h) = let it = cells_has xs c h in (it.0, inr it.1, it.2)
