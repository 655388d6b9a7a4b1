-- The reasons of changes, and how many events of a log have each.
use Rattle.std.specs.Prelude.{◌≡◌, Bool, true, false, List, count_by}
use Rattle.book_model.specs.declared.change.Change.{Change}
use Rattle.book_model.specs.declared.change.Change.TheVariants.{Stores, TakesAway}
use Rattle.book_model.specs.declared.change.StoreReason.{StoreReason}
use Rattle.book_model.specs.declared.change.StoreReason.TheVariants.{Creation, Edit, Import}
use Rattle.book_model.specs.declared.change.StoreReason.TheVariants.{ImportEdit, MoveIn}
use Rattle.book_model.specs.declared.change.RemovalReason.{RemovalReason}
use Rattle.book_model.specs.declared.change.RemovalReason.TheVariants.{Deletion, MoveOut}
use Rattle.book_laws.specs.EventLogs.{BookEvent}
use Rattle.book_laws.specs.LogCounts.{counts_of_log}

-- the change stored a card for this reason
abbrev pub is_stored_for : StoreReason → Change → Bool
is_stored_for Creation (Stores card Creation) = true
is_stored_for Edit (Stores card Edit) = true
is_stored_for Import (Stores card Import) = true
is_stored_for ImportEdit (Stores card ImportEdit) = true
is_stored_for MoveIn (Stores card MoveIn) = true
is_stored_for why change = false

-- the change removed a card for this reason
abbrev pub is_removed_for : RemovalReason → Change → Bool
is_removed_for Deletion (TakesAway Deletion) = true
is_removed_for MoveOut (TakesAway MoveOut) = true
is_removed_for why change = false

-- each count is the number of the events with its reason
pub record CountsMatchReasons (h : List BookEvent) : Type 0 where
  pub created : (counts_of_log h).created ≡ count_by (λ e. is_stored_for Creation e.change) h
  pub edited : (counts_of_log h).edited ≡ count_by (λ e. is_stored_for Edit e.change) h
  pub imported : (counts_of_log h).imported ≡ count_by (λ e. is_stored_for Import e.change) h
  pub import_edited : (counts_of_log h).import_edited
      ≡ count_by (λ e. is_stored_for ImportEdit e.change) h
  pub moved_in : (counts_of_log h).moved_in ≡ count_by (λ e. is_stored_for MoveIn e.change) h
  pub deleted : (counts_of_log h).deleted ≡ count_by (λ e. is_removed_for Deletion e.change) h
  pub moved_out : (counts_of_log h).moved_out ≡ count_by (λ e. is_removed_for MoveOut e.change) h
