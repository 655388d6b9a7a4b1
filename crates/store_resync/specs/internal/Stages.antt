-- The two stages of a resync, for one book: what is written, and the book before and after.
use Rattle.std.specs.Prelude.{ℕ, Option, Some, None}
use Rattle.std.specs.FinMap as finite
use Rattle.base_types.specs.TextMaps.{text_cmp}
use Rattle.book_model.specs.declared.counts.Counts.{Counts}
use Rattle.book_model.specs.declared.row.Row.{Row}
use Rattle.book_model.specs.Books.{Book}
use Rattle.book_model.specs.Forgetting.{book_after_forget}
use Rattle.store_rows.specs.TableBooks.{HeaderRow}
use Rattle.store_rows.specs.Values.{text_card}
use Rattle.store_resync.specs.declared.planning.BookPlan.{BookPlan}
use Rattle.store_resync.specs.declared.planning.Renewal.{Renewal}
use Rattle.store_resync.specs.declared.stages.Stage.{Stage}
use Rattle.store_resync.specs.declared.stages.Stage.TheVariants.{Pairs, Forgetting}

-- ---- the row of the book

abbrev pub number_before : Stage → BookPlan → ℕ
number_before Pairs plan = plan.header.number
number_before Forgetting plan = plan.last

abbrev pub counts_before : Stage → BookPlan → Counts
counts_before Pairs plan = plan.header.counts
counts_before Forgetting plan = plan.counts

abbrev pub horizon_after : Stage → ℕ → ℕ → ℕ
horizon_after Pairs horizon last = horizon
horizon_after Forgetting horizon last = last

abbrev pub header_before : Stage → BookPlan → HeaderRow
header_before stage plan = record {
  id = plan.header.id;
  number = number_before stage plan;
  horizon = plan.header.horizon;
  counts = counts_before stage plan;
}

abbrev pub header_after : Stage → BookPlan → HeaderRow
header_after stage plan = record {
  id = plan.header.id;
  number = plan.last;
  horizon = horizon_after stage plan.header.horizon plan.last;
  counts = plan.counts;
}

-- ---- the book

-- the row of a renewed card has the last number
abbrev pub rows_with_renewal
    : finite.FinMap text_cmp Row → Option Renewal → ℕ → finite.FinMap text_cmp Row
rows_with_renewal members None last = members
rows_with_renewal members (Some renewal) last =
    finite.insert members renewal.uid
    (record { changed = last; card = Some (text_card renewal.text) })

abbrev pub book_with_pairs : BookPlan → Book → Book
book_with_pairs plan book = record book {
  number = plan.last;
  counts = plan.counts;
  members = rows_with_renewal book.members plan.renewed plan.last;
}

abbrev pub book_after_stage : Stage → BookPlan → Book → Book
book_after_stage Pairs plan book = book_with_pairs plan book
book_after_stage Forgetting plan book = book_after_forget book plan.last

-- the card that is renewed in this stage
abbrev pub renewed_in : Stage → BookPlan → Option Renewal
renewed_in Pairs plan = plan.renewed
renewed_in Forgetting plan = None
