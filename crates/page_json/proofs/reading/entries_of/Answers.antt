use Rattle.std.proofs.lemmas.Result.{err_from_is_err_and}
use Rattle.page_json.proofs.MemberLemmas.{first_faulty, one_more_described}
use Rattle.page_json.proofs.reading.entries_of.Goals as goal

pub loop-member-preserved : goal.loop-member-preserved
loop-member-preserved c =
    rw c.in_ok-push.ensures.items
    (one_more_described c.args.members.now c.loop-member.member-index _ c.loop-member.entries.items
    c.in_ok-entry.entry c.loop-member-test.true c.loop-member.invariant
    c.in_ok-entry.ensures.entry)

pub returns-in_err-entry-clause-fault : goal.returns-in_err-entry-clause-fault
returns-in_err-entry-clause-fault c =
    let p = err_from_is_err_and c.from_residual.result c.from_residual.ensures.1 in
    rw (p.1, p.2) (λ n. first_faulty c.args.members.now c.loop-member.member-index _
    c.loop-member.entries.items c.in_err-entry.field-0.0 c.loop-member-test.true
    c.loop-member.invariant (c.in_err-entry.ensures.fault n))
