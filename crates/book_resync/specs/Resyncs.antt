-- What the resync of a store does, over all stores.
use Rattle.std.specs.Prelude.{◌==◌, ℕ, Result, if◌then◌else◌}
use Rattle.book_model.specs.declared.denied.Denied.{Denied}
use Rattle.book_resync.specs.Resyncing.{resync_step}
use Rattle.sync_core.specs.StoreModels.{KeepsTerms, PerformsStep, StoreModel}
use Rattle.sync_core.specs.StoreCrashes.{LeavesStep}

-- a resync takes at least one pair of numbers of each book
abbrev pub some_pairs : ℕ → ℕ
some_pairs pairs = if pairs == 0 then 1 else pairs

-- The call made the step of a resync on the books of the store, or was denied it. A crash leaves
-- what it could leave before, or the books after the whole step.
pub record Resyncs {S : Type 0} (model : StoreModel S) (old : S) (pairs : ℕ)
    (result : Result ℕ Denied) (new : S) : Type 0 where
  pub terms : KeepsTerms model old new
  pub step : PerformsStep model old new result
      (λ limits books. resync_step limits books (some_pairs pairs))
  pub crash : LeavesStep model old new result
      (λ limits books. resync_step limits books (some_pairs pairs))
