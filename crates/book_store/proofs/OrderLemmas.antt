-- The rows of a store's tables are in the order of their ids.
use Rattle.std.proofs.Common.{◌≡◌, ℕ, List, [], ◌∷◌, sym, ap, subst, ◌∙◌}
use Rattle.std.specs.List.{AllByRecursion}
use Rattle.sqlite.specs.Recovery.{Image}
use Rattle.sqlite.specs.Table.{Table as Declared}
use Rattle.sqlite.specs.Tree.{Trees}
use Rattle.sqlite_catalog.proofs.LayoutLemmas.{laid_out}
use Rattle.sqlite_store.specs.Listed.{catalog_rows, is_listed}
use Rattle.sqlite_store.specs.Listing.{all_reals, all_shapes, listed_from}
use Rattle.sqlite_store.proofs.ListingLemmas.{all_ordered}
use Rattle.sqlite_trees.specs.Objects.{IsListed, catalog_tree}
use Rattle.sqlite_trees.specs.Tree.{IsTable}
use Rattle.sqlite_trees.specs.View.{IsOrdered, IsShaped}
use Rattle.sqlite_trees.specs.declared.store.Shape.{Shape}
use Rattle.sqlite_trees.specs.declared.store.Shape.TheVariants.{Table}
use Rattle.book_model.specs.Books.{Books}
use Rattle.store_tables.specs.Tables.{book_schema}
use Rattle.book_store.specs.Restarts.{HoldsStore}

-- a tree with the shape of a table rises
rises : (shape : ℕ → Shape) (trees : Trees) → IsOrdered shape trees → (tables : List Declared)
    → AllByRecursion (λ t. shape t.tree ≡ Table) tables
    → AllByRecursion (λ t. IsTable (trees t.tree)) tables
rises shape trees ordered [] are = tt
rises shape trees ordered (t ∷ tables) are = (
  (subst (λ s. IsShaped s (trees t.tree)) are.0 (ordered t.tree)).0,
  rises shape trees ordered tables are.1,
)

pub store_rises : (image : Image) (books : Books) (stored : HoldsStore image books)
    → AllByRecursion (λ t. IsTable (stored.trees t.tree)) book_schema.tables
store_rises image books stored =
    let file = stored.listed.holds.2 in
    let shapes = all_shapes file.wanted in
    let ordered : IsOrdered shapes stored.trees =
    subst (IsOrdered shapes) (sym file.reads) (all_ordered file.ours.file.db _) in
    let catalog : stored.trees catalog_tree ≡ listed_from 0 file.wanted =
    ap (λ (trees : Trees). trees catalog_tree) file.reads ∙ catalog_rows _ file.wanted _ in
    let listed : IsListed (stored.trees catalog_tree) shapes (all_reals file.wanted) =
    subst (λ rows. IsListed rows shapes (all_reals file.wanted)) (sym catalog)
    (is_listed file.wanted) in
    let rows = subst (λ s. IsShaped s (stored.trees catalog_tree)) listed.itself.0
    (ordered catalog_tree) in
    rises shapes stored.trees ordered book_schema.tables
    (laid_out listed rows stored.listed.lists.listed).tables
