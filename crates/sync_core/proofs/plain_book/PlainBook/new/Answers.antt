use Rattle.std.proofs.Common.{ℕ, ◌≤◌, sym, ap, subst}
use Rattle.std.specs.FinMap as finite
use Rattle.base_types.specs.TextMaps.{text_cmp}
use Rattle.book_model.specs.declared.row.Row.{Row}
use Rattle.book_model.specs.Counting.{total_changes}
use Rattle.book_model.specs.BookQueries.{tombstone_count_after}
use Rattle.sync_core.proofs.DropLemmas.{removed_short}
use Rattle.sync_core.proofs.RowLemmas.{Rows, AllUpTo, none_up_to}
use Rattle.sync_core.proofs.plain_book.PlainBook.new.Goals as goal

pub invariant_of-result : goal.invariant_of-result
invariant_of-result c = (
  record {
    sum = ap total_changes c.none.ensures;
    rows = subst (λ (m : Rows). AllUpTo 0 (finite.entries m)) (sym c.new.ensures) none_up_to;
  },
  subst (λ (m : Rows). tombstone_count_after m 0 ≤ 0) (sym c.new.ensures)
      (subst (λ (k : ℕ). tombstone_count_after finite.empty 0 ≤ k) (finite.len-empty text_cmp Row)
      (removed_short 0 finite.empty)),
)
