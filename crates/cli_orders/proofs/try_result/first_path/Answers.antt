use Rattle.std.proofs.lemmas.Result.{err_from_is_err_and}
use Rattle.cli_orders.proofs.FirstPathLemmas.{denied_for, denied_memory}
use Rattle.cli_orders.proofs.try_result.first_path.Goals as goal

pub returns-in_err-card-clause-only_memory : goal.returns-in_err-card-clause-only_memory
returns-in_err-card-clause-only_memory c = λ lines s.
    let p = err_from_is_err_and c.from_residual.result c.from_residual.ensures.1 in
    rw (p.1, p.2) (denied_memory c.in_err-card.field-0.0 lines (c.in_err-card.ensures.every lines
    s))

pub returns-in_err-card-clause-first_fault : goal.returns-in_err-card-clause-first_fault
returns-in_err-card-clause-first_fault c =
    let p = err_from_is_err_and c.from_residual.result c.from_residual.ensures.1 in
    rw (p.1, p.2) (denied_for c.args.text.now c.in_err-card.field-0.0 c.in_err-card.ensures.fault)
