use Rattle.std.proofs.Common.{◌≡◌, refl}
use Rattle.std.proofs.lemmas.Result.{IfOk-weaker}
use Rattle.http_requests.specs.SessionFeeding.{FeedsPieceInPart}
use Rattle.http_hub.specs.Links.{link_after_failure}
use Rattle.http_hub.proofs.CallLemmas.{free_after_take, on_err_both, with_put_back}
use Rattle.http_hub.proofs.hub.Hub.receive.Goals as goal

pub put_link-requires : goal.put_link-requires
put_link-requires g c = free_after_take c.args.self.now c.take_link-link.new.self c.args.place
    c.take_link-link.result c.take_link-link.ensures.found c.take_link-link.ensures.freed

pub returns-clause-received : goal.returns-clause-received
returns-clause-received g c =
    IfOk-weaker c.receive-received.result _ _
    (λ value receives. record {
      link = c.take_link-link.result;
      next = c.receive-received.new.self;
      found = c.take_link-link.ensures.found;
      receives = receives;
      after_is =
          with_put_back c.args.self.now c.take_link-link.new.self c.put_link.new.self c.args.place
          c.receive-received.new.self
          c.receive-received.new.self c.take_link-link.ensures.freed c.put_link.ensures refl;
    })
    c.receive-received.ensures.received

pub returns-clause-no_memory : goal.returns-clause-no_memory
returns-clause-no_memory g c =
    on_err_both c.receive-received.result
    (FeedsPieceInPart g.H.Handler.does g.H.Handler.fault_reply c.take_link-link.result.session
    c.args.handler.now c.args.piece.now c.receive-received.new.handler)
    (c.receive-received.new.self ≡ link_after_failure c.take_link-link.result) _
    (λ in_part closed. record {
      link = c.take_link-link.result;
      found = c.take_link-link.ensures.found;
      feeds_in_part = in_part;
      after_is =
          with_put_back c.args.self.now c.take_link-link.new.self c.put_link.new.self c.args.place
          c.receive-received.new.self
          (link_after_failure c.take_link-link.result) c.take_link-link.ensures.freed
          c.put_link.ensures closed;
    })
    c.receive-received.ensures.fed_in_part c.receive-received.ensures.no_memory_closes
