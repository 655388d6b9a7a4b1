-- What a crash leaves of a store between its calls.
use Rattle.sqlite.specs.Held.{state}
use Rattle.sqlite.specs.State.{State}
use Rattle.sqlite.specs.Tree.{Trees}
use Rattle.sqlite_trees.specs.declared.store.Store.{Ghosts}
use Rattle.book_model.specs.Books.{Books}
use Rattle.book_store.specs.StoreViews.{IsStore, StoreView, books_of_store}
use Rattle.store_lookups.specs.StoredBooks.{IsOpenOnHonestDisk}
use Rattle.store_writes.specs.TableChanges.{TreesHold}

-- An open after a crash at this moment finds something, and whatever it finds holds these books.
pub record LeavesBooks (s : State) (books : Books) : Type 0 where
  pub left : Trees
  pub may_be_left : s.may_leave left
  pub only_these : (trees : Trees) → s.may_leave trees → TreesHold books trees

-- Between the calls of a store, a crash leaves its books.
abbrev pub StoresSurviveCrashes : {S : Type 0} → Ghosts S → Type 0
StoresSurviveCrashes {S} g =
    (store : StoreView S) → IsStore (state g store.conn) store.limits
    → IsOpenOnHonestDisk (state g store.conn)
    → LeavesBooks (state g store.conn) (books_of_store g store)
