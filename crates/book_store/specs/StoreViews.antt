-- A store over tables, as contracts see it, and its invariant.
use Rattle.std.specs.Prelude.{◌≡◌, false, Result, refl, ⊤}
use Rattle.std.specs.Coded.{Coded, code_by, coded×}
use Rattle.sqlite.specs.Held.{Held, held_code, state}
use Rattle.sqlite.specs.State.{HasCleanDisk, State, Survives}
use Rattle.sqlite.specs.Tree.{Trees}
use Rattle.sqlite_trees.specs.declared.store.Store.{Ghosts}
use Rattle.sync_core.specs.StoreModels.{StoreModel, KeepsTerms, AnswersQuery, PerformsStep}
use Rattle.sync_core.specs.StoreCrashes.{LeavesNoMore, LeavesStep}
use Rattle.sync_core.specs.StoreStates.{coded_bounds}
use Rattle.book_model.specs.declared.denied.Denied.{Denied}
use Rattle.book_model.specs.declared.refusal.Refusal.{Refusal}
use Rattle.book_model.specs.Books.{Books}
use Rattle.book_model.specs.Bounds.{Bounds, IsInRange}
use Rattle.book_model.specs.WellFormed.{IsWellFormed}
use Rattle.store_check.specs.OpenResults.{max_limits}
use Rattle.store_tables.specs.StatementEffects.{OnlyReads}
use Rattle.store_lookups.specs.ChangeFaults.{HaveFreeIds}
use Rattle.store_lookups.specs.StoreFaults.{HasOutsideCauseOfFault}
use Rattle.store_writes.specs.TableChanges.{CommitsStep, TreesHold}
use Rattle.store_lookups.specs.StoredBooks.{IsOpenOnHonestDisk, IsCommittedAndSound, stored_books}

pub record StoreView (S : Type 0) : Type 0 where
  pub conn : Held S
  pub limits : Bounds

abbrev pub store_code : {S : Type 0} → Coded S → Coded (StoreView S)
store_code {S} store =
    code_by (Held S × Bounds) (coded× (held_code store) coded_bounds) (λ v. (v.conn, v.limits))
    (λ p. record { conn = p.0; limits = p.1 }) (λ _. refl)

-- the trees of a store with these books, which an opening accepts
pub record StoredTrees (trees : Trees) : Type 0 where
  pub books : Books
  pub holds : TreesHold books trees
  pub well_formed : IsWellFormed max_limits books

-- The invariant of a store: no transaction is open; and as long as the connection is open on an
-- honest disk, the tables are committed and sound, and hold well-formed books, by the limits that
-- an opening tests. Whatever a crash may leave is a store too, also after the connection was
-- closed.
pub record IsStore (s : State) (limits : Bounds) : Type 0 where
  pub settled : s.in_transaction ≡ false
  pub stays_sound : IsOpenOnHonestDisk s → IsCommittedAndSound s
  pub stays_well_formed : IsOpenOnHonestDisk s → IsWellFormed max_limits (stored_books s)
  pub leaves_stores : HasCleanDisk s → (trees : Trees) → s.may_leave trees → StoredTrees trees
  pub range : IsInRange limits

-- These books may be left by a crash now, as long as the disk has returned what was written: sound
-- tables that are listed in the file, with these books.
pub record MayLeaveBooks (s : State) (books : Books) : Type 0 where
  pub clean : HasCleanDisk s
  pub trees : Trees
  pub may_be_left : s.may_leave trees
  pub holds : TreesHold books trees

-- a crash now may leave these trees, and they are a store's
pub record LeftTrees (s : State) (trees : Trees) : Type 0 where
  pub may_be_left : s.may_leave trees
  pub stored : StoredTrees trees

-- the books of a store
abbrev pub books_of_store : {S : Type 0} → Ghosts S → StoreView S → Books
books_of_store g s = stored_books (state g s.conn)

-- What contracts know of a store over tables. The premise: the disk has returned what was written
-- so far, and the connection is open.
abbrev pub table_model : {S : Type 0} → Ghosts S → StoreModel (StoreView S)
table_model g = record {
  books = books_of_store g;
  limits = λ s. s.limits;
  premise = λ s. IsOpenOnHonestDisk (state g s.conn);
  may_fault = λ _. ⊤;
  may_leave = λ s. MayLeaveBooks (state g s.conn);
}

-- A call that reads: the contract of every store, and that it only reads. So a crash leaves what it
-- could leave before the call, of the trees and so of the books. A fault of the store comes only
-- from an outside cause.
pub record ReadsStore {S : Type 0} {T A : Type 0} (g : Ghosts S) (allows : T → A → Type 0)
    (old new : StoreView S) (r : Result A Denied) (query : Bounds → Books → Result T Refusal)
    : Type 0 where
  pub keeps_terms : KeepsTerms (table_model g) old new
  pub matches_query : AnswersQuery (table_model g) allows old new r query
  pub leaves_no_more : LeavesNoMore (table_model g) old new r
  pub only_reads : OnlyReads (state g old.conn) (state g new.conn)
  pub store_fault : HasCleanDisk (state g new.conn)
      → HasOutsideCauseOfFault (state g old.conn) (state g new.conn) r

-- A call that changes the books: the contract of every store, and what a crash can leave. That is
-- what it could leave before the call, or the one commit, with the books after the whole call,
-- which is made only over a connection that was open on an honest disk. While SQLite has ids for
-- new rows, a fault of the store comes only from an outside cause.
pub record ChangesStore {S : Type 0} {A : Type 0} (g : Ghosts S) (old new : StoreView S)
    (r : Result A Denied) (step : Bounds → Books → Result (A × Books) Refusal) : Type 0 where
  pub keeps_terms : KeepsTerms (table_model g) old new
  pub matches_step : PerformsStep (table_model g) old new r step
  pub leaves_step : LeavesStep (table_model g) old new r step
  pub crash : Survives (state g old.conn) (state g new.conn)
      (CommitsStep (state g old.conn) (step old.limits))
  pub store_fault : HasCleanDisk (state g new.conn) → HaveFreeIds (state g old.conn).now.trees
      → HasOutsideCauseOfFault (state g old.conn) (state g new.conn) r
