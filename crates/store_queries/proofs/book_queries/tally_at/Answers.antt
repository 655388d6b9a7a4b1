use Rattle.std.proofs.Common.{sym, ◌∙◌}
use Rattle.book_model.specs.Counting.{live_count}
use Rattle.book_model.specs.BookQueries.{tally_with}
use Rattle.store_lookups.proofs.StoreFaultLemmas.{passed_cause}
use Rattle.store_queries.proofs.book_queries.tally_at.Goals as goal

pub returns-clause-answers : goal.returns-clause-answers
returns-clause-answers g c rows clean holds sound right named =
    c.of.ensures ∙ (λ i. tally_with (c.number.ensures i) (c.horizon.ensures.value i)
    (live_count (c.counts.ensures.value i)) (c.counts.ensures.value i)
    (sym (c.in_ok-tombstones.ensures.number rows clean holds sound right named) i))

pub returns-in_err-tombstones-clause-store_fault : goal.returns-in_err-tombstones-clause-store_fault
returns-in_err-tombstones-clause-store_fault g c fits rows clean holds faultless =
    passed_cause c.from_residual.result c.in_err-tombstones.field-0.0 _ c.from_residual.ensures.1
    (c.in_err-tombstones.ensures.store_fault fits rows clean holds faultless)
