use Rattle.std.proofs.Common.{refl}
use Rattle.page_json.proofs.MemberLemmas.{none_encoded, one_more_encoded}
use Rattle.page_json.proofs.parts.members_of.Goals as goal

pub returns-in-None-clause-fault : goal.returns-in-None-clause-fault
returns-in-None-clause-fault c = λ n. (
  refl,
  none_encoded c.args.values.now c.loop-value.value-index
      c.value-item.result c.loop-value-test.true c.value-item.is c.in-None.ensures.none,
)

pub loop-value-preserved : goal.loop-value-preserved
loop-value-preserved c =
    rw c.in_ok-push-in-Some.ensures.items
    (one_more_encoded c.args.values.now c.loop-value.value-index c.value-item.result
    c.loop-value.members.items c.in-Some.member c.loop-value-test.true c.value-item.is
    c.loop-value.invariant c.in-Some.ensures.some)
