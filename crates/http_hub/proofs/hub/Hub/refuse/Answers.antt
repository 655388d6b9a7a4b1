use Rattle.http_hub.specs.Links.{link_after_refusal}
use Rattle.http_hub.proofs.CallLemmas.{free_after_take, with_put_back}
use Rattle.http_hub.proofs.hub.Hub.refuse.Goals as goal

pub put_link-requires : goal.put_link-requires
put_link-requires c = free_after_take c.args.self.now c.take_link-link.new.self c.args.place
    c.take_link-link.result c.take_link-link.ensures.found c.take_link-link.ensures.freed

pub returns : goal.returns
returns c = record {
  link = c.take_link-link.result;
  found = c.take_link-link.ensures.found;
  after_is =
      with_put_back c.args.self.now c.take_link-link.new.self c.put_link.new.self c.args.place
      c.refuse.new.self
      (link_after_refusal c.take_link-link.result c.args.reply.items c.args.now)
      c.take_link-link.ensures.freed c.put_link.ensures c.refuse.ensures;
}
