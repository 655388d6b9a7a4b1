-- What a creation and a migration leave, as the openings after them read it.
use Rattle.std.proofs.Common.{refl}
use Rattle.std.specs.FinMap as finite
use Rattle.sqlite.specs.Effect.{Database}
use Rattle.sqlite.specs.Files.{HoldsDatabase}
use Rattle.sqlite.specs.Recovery.{Image}
use Rattle.sqlite.specs.Tree.{Trees}
use Rattle.store_check.specs.OpenResults.{max_limits}
use Rattle.store_migration.specs.Migration.{CommitsMigration}
use Rattle.store_rows.specs.TableBooks.{books_in}
use Rattle.store_rows.specs.TableRows.{no_rows}
use Rattle.store_rows.proofs.HeldRows.{no_rows_sound, nothing_held}
use Rattle.store_rows.proofs.OpenLemmas.{new_tables_empty}
use Rattle.store_writes.proofs.HeldLemmas.{trees_held}
use Rattle.book_laws.proofs.WellFormedBooks.{well_none}
use Rattle.book_store.specs.OpenOutcomes.{AreNewStoreTrees}
use Rattle.book_store.specs.Restarts.{HoldsStore, declared_over}
use Rattle.book_store.proofs.RestartLemmas.{trees_hold_store}

-- created tables are a store without books
pub created_store : (image : Image) (trees : Trees) → HoldsDatabase image trees
    → AreNewStoreTrees trees → HoldsStore image finite.empty
created_store image trees held created =
    let db = declared_over trees in
    let empty = new_tables_empty db created in
    trees_hold_store image trees held (record {
      books = finite.empty;
      holds = trees_held db finite.empty (record {
        sound = record { rows = no_rows; holds = empty; sound = no_rows_sound };
        books_are = (nothing_held db empty).books;
      });
      well_formed = well_none max_limits;
    })

-- the tables of a migration are a store
pub migrated_store : (image : Image) (first : Database) (trees : Trees)
    → HoldsDatabase image trees → CommitsMigration max_limits first trees
    → HoldsStore image (books_in trees)
migrated_store image first trees held commits = record {
  trees = trees;
  listed = record { holds = held; lists = commits.migrated.obeys.lists };
  well_formed = commits.well_formed;
  books_are = refl;
}
