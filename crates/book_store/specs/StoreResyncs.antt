-- What a resync does to a store over tables.
use Rattle.std.specs.Prelude.{ℕ, Result}
use Rattle.sqlite.specs.Held.{state}
use Rattle.sqlite.specs.State.{Survives}
use Rattle.sqlite_trees.specs.declared.store.Store.{Ghosts}
use Rattle.sync_core.specs.StoreModels.{KeepsTerms, PerformsStep}
use Rattle.sync_core.specs.StoreCrashes.{LeavesStep}
use Rattle.book_model.specs.declared.denied.Denied.{Denied}
use Rattle.book_resync.specs.Resyncing.{resync_step}
use Rattle.book_store.specs.StoreViews.{StoreView, table_model}
use Rattle.store_writes.specs.TableChanges.{CommitsStep}

-- The contract of every store, against the step of a resync, and what a crash can leave. That is
-- what it could leave before the call, or the one commit, with the books after the whole call,
-- which is made only over a connection that was open on an honest disk. The causes of a fault of
-- the store are left open.
pub record ResyncsStore {S : Type 0} (g : Ghosts S) (old new : StoreView S) (pairs : ℕ)
    (r : Result ℕ Denied) : Type 0 where
  pub keeps_terms : KeepsTerms (table_model g) old new
  pub matches_step : PerformsStep (table_model g) old new r
      (λ limits books. resync_step limits books pairs)
  pub leaves_step : LeavesStep (table_model g) old new r
      (λ limits books. resync_step limits books pairs)
  pub crash : Survives (state g old.conn) (state g new.conn)
      (CommitsStep (state g old.conn) (λ books. resync_step old.limits books pairs))
