-- How a later history of a book extends an earlier one.
use Rattle.std.specs.Prelude.{ℕ, ◌≡◌, ◌≤◌, List, ◌++◌, Some}
use Rattle.std.specs.FinMap as finite
use Rattle.book_model.specs.declared.answers.ImportTally.{ImportTally}
use Rattle.book_laws.specs.EventLogs.{BookEvent}
use Rattle.book_laws.specs.StoreHistories.{BookHistory}

-- The book has the same id and tombstone limit, all earlier events with later ones after them, a
-- horizon that is no lower, and all its kept imports.
pub record Extends (old new : BookHistory) : Type 0 where
  pub id : new.id ≡ old.id
  pub later : List BookEvent
  pub log : new.log ≡ later ++ old.log
  pub horizon : old.horizon ≤ new.horizon
  pub keep : new.keep ≡ old.keep
  pub imports : (key : List ℕ) (tally : ImportTally) → finite.get old.imports key ≡ Some tally →
      finite.get new.imports key ≡ Some tally
