use Rattle.std.proofs.Common.{◌∙◌, ◌≤◌, arith}
use Rattle.http_hub.specs.Holdings.{large_total, most_load}
use Rattle.http_hub.specs.Links.{link_after_sent}
use Rattle.http_hub.proofs.HoldingLemmas.{open_changed, sent_sum, sent_total}
use Rattle.http_hub.proofs.bounded.BoundedHub.mark_sent.Goals as goal

pub large_part-next-requires : goal.large_part-next-requires
large_part-next-requires c =
    let sends = c.mark_sent.ensures in
    open_changed c.args.place sends.link (link_after_sent sends.link
    c.args.count c.args.now) c.self.inside.hub c.mark_sent.new.self sends.found sends.after_is

pub invariant_of-self : goal.invariant_of-self
invariant_of-self c =
    let old = c.self.inside.hub in
    let sum = sent_sum c.self.inside.large_sum c.large_part-part.result c.large_part-next.result
    c.args.place c.args.count c.args.now old c.mark_sent.new.self c.self.invariant.0
    c.large_part-part.ensures.part
    c.mark_sent.ensures c.large_part-next.ensures.part in
    let is = c.self.invariant.0 in
    let few = c.self.invariant.1 in
    let held : large_total old.slots ≤ most_load = omega (arith, is, few) in
    let total = sent_total most_load c.args.place c.args.count c.args.now old c.mark_sent.new.self
    c.mark_sent.ensures held in
    let all = c.sum_with-self-inside.ensures in
    (all ∙ sum, omega (arith, all, sum, total))
