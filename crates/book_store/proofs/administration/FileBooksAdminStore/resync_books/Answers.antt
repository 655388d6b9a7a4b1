use Rattle.std.proofs.Common.{◌≡◌, ℕ, Result, subst}
use Rattle.book_resync.specs.Resyncs.{Resyncs, some_pairs}
use Rattle.book_model.specs.declared.denied.Denied.{Denied}
use Rattle.book_resync.specs.Resyncing.{resync_step}
use Rattle.sqlite_trees.specs.declared.store.Store.{Ghosts}
use Rattle.sync_core.specs.StoreCrashes.{LeavesStep}
use Rattle.sync_core.specs.StoreModels.{PerformsStep}
use Rattle.book_store.specs.StoreResyncs.{ResyncsStore}
use Rattle.book_store.specs.StoreViews.{StoreView, table_model}
use Rattle.book_store.proofs.administration.FileBooksAdminStore.resync_books.Goals as goal

-- a resync of this many pairs, which are those that the order means
resyncs_pairs : {S : Type 0} (g : Ghosts S) (old new : StoreView S) (pairs some : ℕ) (r :
    Result ℕ Denied) → some ≡ some_pairs pairs → ResyncsStore g old new some r
    → Resyncs (table_model g) old pairs r new
resyncs_pairs g old new pairs some r are made = record {
  terms = made.keeps_terms;
  step = subst (λ (n : ℕ). PerformsStep (table_model g) old new r
      (λ limits books. resync_step limits books n)) are made.matches_step;
  crash = subst (λ (n : ℕ). LeavesStep (table_model g) old new r (λ limits books. resync_step limits
      books n)) are made.leaves_step;
}

pub returns-clause-resyncs : goal.returns-clause-resyncs
returns-clause-resyncs c =
    resyncs_pairs _ c.args.self.now c.resync.new.store c.args.pairs c.at_least_one.result
    c.resync.result c.at_least_one.ensures.value c.resync.ensures.changes
