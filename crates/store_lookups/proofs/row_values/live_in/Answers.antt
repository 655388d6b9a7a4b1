use Rattle.std.proofs.Common.{ap, subst, sym, ◌∙◌, ◌<◌, length, arith}
use Rattle.sqlite.specs.Order.{column}
use Rattle.store_lookups.proofs.StoreFaultLemmas.{cell, passed_on}
use Rattle.store_rows.specs.Values.{natural}
use Rattle.store_lookups.proofs.row_values.live_in.Goals as goal

pub returns-in_err-version-clause-memory : goal.returns-in_err-version-clause-memory
returns-in_err-version-clause-memory c m readable is =
    passed_on c.from_residual.result c.in_err-version.field-0.0 c.from_residual.ensures.1
    (c.in_err-version.ensures.memory (natural m.changed) (ap (λ r. column r 0) is
    ∙ cell m.changed readable.changed))

pub returns-in_err-card-clause-memory : goal.returns-in_err-card-clause-memory
returns-in_err-card-clause-memory c m readable is =
    passed_on c.from_residual-in_err-card.result c.in_err-card.field-0.0
    c.from_residual-in_err-card.ensures.1 (c.in_err-card.ensures.memory m.card
    (subst (λ r. 1 < length r) (sym is) (omega arith)) (ap (λ r. column r 1) is) readable.card)
