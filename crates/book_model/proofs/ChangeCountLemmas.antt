-- Each change is counted once.
use Rattle.std.proofs.Common.{◌≡◌, ◌+◌, arith}
use Rattle.book_model.specs.declared.change.Change.{Change}
use Rattle.book_model.specs.declared.change.Change.TheVariants.{Stores, TakesAway}
use Rattle.book_model.specs.declared.change.StoreReason.TheVariants.{Creation, Edit, Import}
use Rattle.book_model.specs.declared.change.StoreReason.TheVariants.{ImportEdit, MoveIn}
use Rattle.book_model.specs.declared.change.RemovalReason.TheVariants.{Deletion, MoveOut}
use Rattle.book_model.specs.declared.counts.Counts.{Counts}
use Rattle.book_model.specs.Counting.{counts_after_change, total_changes}

pub total-counted : (change : Change) (c : Counts) → total_changes (counts_after_change change c)
    ≡ total_changes c + 1
total-counted (Stores card Creation) c = omega arith
total-counted (Stores card Edit) c = omega arith
total-counted (Stores card Import) c = omega arith
total-counted (Stores card ImportEdit) c = omega arith
total-counted (Stores card MoveIn) c = omega arith
total-counted (TakesAway Deletion) c = omega arith
total-counted (TakesAway MoveOut) c = omega arith
