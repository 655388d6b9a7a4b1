-- What a crash leaves of a store between its calls.
use Rattle.std.proofs.Common.{◌≡◌, ◌∙◌, IsTrue, refl, sym, ap, subst}
use Rattle.sqlite.specs.Effect.{Database}
use Rattle.sqlite.specs.Held.{state}
use Rattle.sqlite.specs.Tree.{Trees}
use Rattle.sqlite_trees.specs.declared.store.Store.{Ghosts}
use Rattle.book_store.specs.Crashes.{StoresSurviveCrashes}
use Rattle.book_store.specs.StoreViews.{books_of_store}
use Rattle.store_writes.specs.TableChanges.{TreesHold}
use Rattle.store_writes.proofs.HeldLemmas.{trees_held}

pub stores_survive : {S : Type 0} (g : Ghosts S)
    → ((s : S) (trees : Trees) → IsTrue (g.view s).is_open → g.recovers s trees
    → trees ≡ (g.view s).committed)
    → ((s : S) → IsTrue (g.view s).is_open → g.recovers s (g.view s).committed)
    → StoresSurviveCrashes g
stores_survive {S} g settled stays = λ store is order.
    let sound = is.stays_sound order in
    let held : TreesHold (books_of_store g store) (state g store.conn).now.trees =
    trees_held (state g store.conn).now (books_of_store g store) (record {
      sound = sound.sound;
      books_are = refl;
    }) in
    record {
      left = (g.view store.conn.store).committed;
      may_be_left = stays store.conn.store order.1;
      only_these = λ trees may.
          subst (TreesHold (books_of_store g store)) (ap (λ (db : Database). db.trees)
          sound.committed ∙ sym (settled store.conn.store trees order.1 may)) held;
    }
