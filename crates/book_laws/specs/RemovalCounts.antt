-- How many cards were removed from a book after a given number.
use Rattle.std.specs.Prelude.{ℕ, ◌≡◌, ◌-◌, ◌<◌, Bool, true, false, List, length, take, count_by}
use Rattle.std.specs.Prelude.{Some}
use Rattle.std.specs.FinMap as finite
use Rattle.book_model.specs.declared.change.Change.{Change}
use Rattle.book_model.specs.declared.change.Change.TheVariants.{Stores, TakesAway}
use Rattle.book_laws.specs.EventLogs.{BookEvent}
use Rattle.book_laws.specs.StoreHistories.{BookHistory, BookHistories}

-- the change is a removal, for any reason
abbrev pub is_removal : Change → Bool
is_removal (Stores card why) = false
is_removal (TakesAway why) = true

-- the events of a log with numbers above this one
abbrev pub events_above : List BookEvent → ℕ → List BookEvent
events_above h base = take (length h - base) h

-- how many of them are removals
abbrev pub removals_above : List BookEvent → ℕ → ℕ
removals_above h base = count_by (λ e. is_removal e.change) (events_above h base)

-- After this number the book had more removals than it keeps tombstones.
pub record RemovalsExceedKeep (histories : BookHistories) (name : List ℕ) (base : ℕ) : Type 0 where
  pub history : BookHistory
  pub found_history : finite.get histories name ≡ Some history
  pub more : history.keep < removals_above history.log base
