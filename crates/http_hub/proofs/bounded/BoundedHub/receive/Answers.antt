use Rattle.std.proofs.Common.{◌∙◌, ◌≤◌, arith, subst}
use Rattle.http_hub.specs.BoundedHubs.{ReceivesWithin}
use Rattle.http_hub.specs.Holdings.{large_total, most_load}
use Rattle.http_hub.specs.Hubs.{HubValue}
use Rattle.http_hub.proofs.HoldingLemmas.{open_received, others_of, received_sum, received_total}
use Rattle.http_hub.proofs.bounded.BoundedHub.receive.Goals as goal

pub receive_beside-requires-clause-others : goal.receive_beside-requires-clause-others
receive_beside-requires-clause-others g c = λ link at.
    let left = c.saturating_sub-others.ensures in
    let all = others_of c.self.inside.large_sum c.large_part-part.result c.args.place
    c.self.inside.hub c.self.invariant.0 c.large_part-part.ensures.part link at in
    omega (arith, left, all)

pub large_part-next-requires : goal.large_part-next-requires
large_part-next-requires g c =
    open_received g.H.Handler.does g.H.Handler.fault_reply c.args.most c.args.place
    c.self.inside.hub c.args.handler.now c.args.piece.now c.args.now
    c.receive_beside.new.handler c.receive_beside.new.hub c.receive_beside.ensures

pub invariant_of-self : goal.invariant_of-self
invariant_of-self g c =
    let does = g.H.Handler.does in
    let fault_reply = g.H.Handler.fault_reply in
    let old = c.self.inside.hub in
    let sum = received_sum does fault_reply c.self.inside.large_sum c.large_part-part.result
    c.large_part-next.result c.args.most c.args.place old c.args.handler.now c.args.piece.now
    c.args.now
    c.receive_beside.new.handler c.receive_beside.new.hub c.self.invariant.0
    c.large_part-part.ensures.part c.receive_beside.ensures c.large_part-next.ensures.part in
    let is = c.self.invariant.0 in
    let few = c.self.invariant.1 in
    let held : large_total old.slots ≤ most_load = omega (arith, is, few) in
    let bound : c.args.most ≤ most_load = omega (arith, c.ranges.most) in
    let total = received_total does fault_reply most_load c.large_part-next.result c.args.most
    c.args.place old c.args.handler.now c.args.piece.now c.args.now
    c.receive_beside.new.handler c.receive_beside.new.hub held bound
    c.large_part-next.ensures.within c.receive_beside.ensures c.large_part-next.ensures.part in
    let all = c.sum_with-self-inside.ensures in
    (all ∙ sum, omega (arith, all, sum, total))

pub returns : goal.returns
returns g c =
    subst (λ (h : HubValue). ReceivesWithin g.H.Handler.does g.H.Handler.fault_reply c.args.most
    c.args.place h c.args.handler.now c.args.piece.now c.args.now
    c.receive_beside.new.handler c.receive_beside.new.hub) c.self.view_is c.receive_beside.ensures
