use Rattle.std.proofs.lemmas.Result.{err_from_is_err_and}
use Rattle.page_json.proofs.member.entry_of.Goals as goal

pub returns-in_err-card-in-Changed-clause-fault : goal.returns-in_err-card-in-Changed-clause-fault
returns-in_err-card-in-Changed-clause-fault c =
    let p = err_from_is_err_and c.from_residual.result c.from_residual.ensures.1 in
    rw (p.1, p.2, c.in-Changed.is) c.in_err-card-in-Changed.ensures.fault
