use Rattle.std.proofs.Common.{rules}
use denote.Text.{Utf8}
use denote.Shadow.{shadow}
use Rattle.contact_csv.specs.Carrying.{last_part, next_part}
use Rattle.contact_csv.proofs.ResultLemmas.{ok_then}
use Rattle.contact_csv.proofs.carried.holds_components.Goals as goal

pub loop-part-preserved : goal.loop-part-preserved
loop-part-preserved c =
    let text : shadow (Utf8 c.in-Some.tail.now) = search rules in (
      text,
      λ held. c.loop-part.invariant.1 (next_part c.loop-part.rest.now c.in-Some.part.now
          c.in-Some.tail.now c.in-Some.ensures (c.in_ok-holds_component_part.ensures c.if-not-branch.false)
          held),
    )

pub returns : goal.returns
returns c = ok_then c.holds_component_part-2.result (λ holds held e. c.loop-part.invariant.1
    (last_part c.loop-part.rest.now (held e))) c.holds_component_part-2.ensures
