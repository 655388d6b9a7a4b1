use Rattle.std.proofs.lemmas.Result.{err_from_is_err_and}
use Rattle.serde_json.specs.View.{view}
use Rattle.page_json.proofs.MemberLemmas.{no_shape}
use Rattle.page_json.proofs.parts.parts_of.Goals as goal

pub returns-in_err-members-clause-fault : goal.returns-in_err-members-clause-fault
returns-in_err-members-clause-fault c =
    let p = err_from_is_err_and c.from_residual.result c.from_residual.ensures.1 in
    rw (p.1, p.2) (λ n.
    let none = c.in_err-members.ensures.fault n in (
      none.0,
      no_shape (view c.args.value.now) c.in-Some.values.now.items c.in-Some.token.now
          c.in-Some.truncated c.in-Some.ensures.some (rw c.deref.ensures.value at none.1),
    ))
