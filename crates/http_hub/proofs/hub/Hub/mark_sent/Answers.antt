use Rattle.std.proofs.Common.{◌≤◌, Option, length, subst}
use Rattle.http_hub.specs.HubRuns.{pending_of}
use Rattle.http_hub.specs.Hubs.{link_in}
use Rattle.http_hub.specs.Links.{LinkValue, link_after_sent}
use Rattle.http_hub.proofs.CallLemmas.{free_after_take, with_put_back}
use Rattle.http_hub.proofs.hub.Hub.mark_sent.Goals as goal

pub put_link-requires : goal.put_link-requires
put_link-requires c = free_after_take c.args.self.now c.take_link-link.new.self c.args.place
    c.take_link-link.result c.take_link-link.ensures.found c.take_link-link.ensures.freed

pub returns : goal.returns
returns c = record {
  link = c.take_link-link.result;
  found = c.take_link-link.ensures.found;
  count_fits = subst (λ (at : Option (Option LinkValue)). c.args.count ≤ length
      (pending_of (link_in at))) c.take_link-link.ensures.found c.requires.within;
  after_is =
      with_put_back c.args.self.now c.take_link-link.new.self c.put_link.new.self c.args.place
      c.mark_sent.new.self
      (link_after_sent c.take_link-link.result c.args.count c.args.now)
      c.take_link-link.ensures.freed c.put_link.ensures c.mark_sent.ensures;
}
