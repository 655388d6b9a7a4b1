-- Changes counted by reason.
use Rattle.std.specs.Prelude.{ℕ, Bool, ◌+◌, ◌-◌, if◌then◌else◌}
use Rattle.book_model.specs.declared.counts.Counts.{Counts}
use Rattle.book_model.specs.declared.change.Change.{Change}
use Rattle.book_model.specs.declared.change.Change.TheVariants.{Stores, TakesAway}
use Rattle.book_model.specs.declared.change.StoreReason.TheVariants.{Creation, Edit, Import}
use Rattle.book_model.specs.declared.change.StoreReason.TheVariants.{ImportEdit, MoveIn}
use Rattle.book_model.specs.declared.change.RemovalReason.TheVariants.{Deletion, MoveOut}

abbrev pub no_counts : Counts
no_counts = record {
  created = 0;
  edited = 0;
  imported = 0;
  import_edited = 0;
  moved_in = 0;
  deleted = 0;
  moved_out = 0;
}

-- one more change of this reason
abbrev pub counts_after_change : Change → Counts → Counts
counts_after_change (Stores card Creation) c = record c { created = c.created + 1 }
counts_after_change (Stores card Edit) c = record c { edited = c.edited + 1 }
counts_after_change (Stores card Import) c = record c { imported = c.imported + 1 }
counts_after_change (Stores card ImportEdit) c = record c { import_edited = c.import_edited + 1 }
counts_after_change (Stores card MoveIn) c = record c { moved_in = c.moved_in + 1 }
counts_after_change (TakesAway Deletion) c = record c { deleted = c.deleted + 1 }
counts_after_change (TakesAway MoveOut) c = record c { moved_out = c.moved_out + 1 }

abbrev pub total_changes : Counts → ℕ
total_changes c =
    c.created + c.edited + c.imported + c.import_edited + c.moved_in + c.deleted + c.moved_out

-- how many changes added a card, and how many removed one
abbrev pub arrived_cards : Counts → ℕ
arrived_cards c = c.created + c.imported + c.moved_in

abbrev pub departed_cards : Counts → ℕ
departed_cards c = c.deleted + c.moved_out

-- how many cards are live, by the counts alone
abbrev pub live_count : Counts → ℕ
live_count c = arrived_cards c - departed_cards c

-- what one test adds to a count
abbrev pub one_if : Bool → ℕ
one_if holds = if holds then 1 else 0
