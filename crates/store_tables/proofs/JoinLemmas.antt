-- The result of a query over two tables.
use Rattle.std.proofs.Common.{◌≡◌, ℕ, Bool, true, List, [], ◌∷◌, map, filter, flat_map, sym, ap}
use Rattle.std.proofs.Common.{subst, ◌∙◌, IsPermutation}
use Rattle.std.specs.List.{list_all}
use Rattle.std.proofs.lemmas.List.Sorted.{IsPermutation-map, IsPermutation-sym}
use Rattle.sqlite.specs.declared.types.Value.TheVariants.{Null}
use Rattle.sqlite.specs.Order.{Row}
use Rattle.sqlite.specs.Query.{IsSureAnswer, IsAnswer, output, Output}
use Rattle.sqlite.specs.Term.{Term, eval_all, holds}
use Rattle.sqlite.specs.Tree.{Trees}
use Rattle.sqlite_rules.specs.Lists.{Has}
use Rattle.sqlite_trees.proofs.ListLemmas.{map-map, map-flat_map, flat_map_same_on}
use Rattle.store_tables.proofs.Picks.{flat_filter}
use Rattle.store_tables.proofs.HasLemmas.{has_joined, has_mapped, has_moved, has_passing}
use Rattle.store_tables.proofs.HasLemmas.{joined_has, mapped_has, passing_has}
use Rattle.store_tables.proofs.JoinQueries.{picks_pairs}

-- ---- the rows of a table, as items

module _ {X : Type 0} (stored : X → Row) (cells : Row → Row) (xs : List X) (rows : List Row) (same :
    IsPermutation (map stored xs) (map cells rows)) where
  -- each row is that of an item
  pub item_of : (r : Row) → Has rows r → (x : X) × Has xs x × (cells r ≡ stored x)
  item_of r h = mapped_has stored xs (cells r) (has_moved (map stored xs) (map cells rows) (cells r)
      same (has_mapped cells rows r h))

  -- each item has a row
  pub row_of : (x : X) → Has xs x → (r : Row) × Has rows r × (stored x ≡ cells r)
  row_of x h = mapped_has cells rows (stored x) (has_moved (map cells rows) (map stored xs)
      (stored x) (IsPermutation-sym _ _ same) (has_mapped stored xs x h))

-- ---- pairs of rows

module _ (first second : ℕ) (tests project : List Term) (params : Row) where
  abbrev pub pair_passes : Row → Row → Bool
  pair_passes a b = list_all (holds (params ∷ a ∷ b ∷ [])) tests

  abbrev pub pair_shows : Row → Row → Row
  pair_shows a b = eval_all project (params ∷ a ∷ b ∷ [])

  -- the result rows of the pairs that pass, before they are ordered
  abbrev pub shown_pairs : Trees → List Row
  shown_pairs db = flat_map (λ a. map (pair_shows a) (filter (pair_passes a) (db second)))
      (db first)

  pub picked_pairs : (db : Trees) (rows : List Row)
      → IsSureAnswer (picks_pairs first second tests project) db params rows
      → IsPermutation (shown_pairs db) rows
  picked_pairs db rows h =
      let q = picks_pairs first second tests project in
      let a : IsAnswer q db params rows = h Null in
      let staged : a.staged ≡ flat_map (λ a. map (λ b. params ∷ a ∷ b ∷ [])
      (filter (pair_passes a) (db second))) (db first) =
      a.grouped ∙ flat_map_same_on _ _ (λ a. flat_filter (pair_passes a) (λ b. params ∷ a ∷ b ∷ [])
      (db second)) (db first) in
      let last : map (λ (o : Output). o.1) a.kept ≡ shown_pairs db =
      ap (map (λ (o : Output). o.1)) (a.distinct ∙ ap (map (output q)) staged)
      ∙ map-map (λ (o : Output). o.1) (output q) _
      ∙ map-flat_map (λ env. (output q env).1) (λ a. map (λ b. params ∷ a ∷ b ∷ [])
      (filter (pair_passes a) (db second))) (db first)
      ∙ flat_map_same_on _ _ (λ a. map-map (λ env. (output q env).1) (λ b. params ∷ a ∷ b ∷ [])
      (filter (pair_passes a) (db second))) (db first) in
      subst (λ front. IsPermutation front rows) last
      (subst (IsPermutation (map (λ (o : Output). o.1) a.kept)) (sym a.shown)
      (IsPermutation-map (λ (o : Output). o.1) a.kept a.ordered a.same))

  -- the result row of two rows that pass
  pub record IsPairOf (db : Trees) (row : Row) : Type 0 where
    pub one : Row
    pub two : Row
    pub has_one : Has (db first) one
    pub has_two : Has (db second) two
    pub passes : pair_passes one two ≡ true
    pub shown : row ≡ pair_shows one two

  pub pair_of : (db : Trees) (row : Row) → Has (shown_pairs db) row → IsPairOf db row
  pair_of db row h =
      let one = joined_has (λ a. map (pair_shows a) (filter (pair_passes a) (db second))) (db first)
      row h in
      let two = mapped_has (pair_shows one.0) (filter (pair_passes one.0) (db second)) row one.2 in
      let kept = passing_has (pair_passes one.0) (db second) two.0 two.1 in
      record {
        one = one.0;
        two = two.0;
        has_one = one.1;
        has_two = kept.0;
        passes = kept.1;
        shown = two.2;
      }

  pub has_pair : (db : Trees) (a b : Row) → Has (db first) a → Has (db second) b
      → pair_passes a b ≡ true → Has (shown_pairs db) (pair_shows a b)
  has_pair db a b one two passes =
      has_joined (λ a. map (pair_shows a) (filter (pair_passes a) (db second))) (db first) a
      (pair_shows a b) one
      (has_mapped (pair_shows a) (filter (pair_passes a) (db second)) b (has_passing (pair_passes a)
      (db second) b passes two))
