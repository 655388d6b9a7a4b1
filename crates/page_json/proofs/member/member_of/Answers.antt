use Rattle.serde_json.specs.View.{view}
use Rattle.page_json.proofs.MemberLemmas.{none_map, encodes_neither}
use Rattle.page_json.proofs.member.member_of.Goals as goal

pub returns-in-None-clause-none : goal.returns-in-None-clause-none
returns-in-None-clause-none c =
    none_map c.removed_member.result (encodes_neither (view c.args.value.now)
    c.in-None.ensures.none) c.removed_member.ensures.none
