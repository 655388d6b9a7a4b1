use Rattle.hub_server.proofs.PlaceStepLemmas.{finishes}
use Rattle.hub_server.proofs.server.Server.finish.Goals as goal

pub returns : goal.returns
returns g c =
    let done = finishes g.E.Endpoint.calls c.args.self.now c.close.new.self c.args.place
    c.args.endpoint.now c.close.new.endpoint c.requires c.close.ensures.left
    c.close.ensures.event in
    record { acts = done.acts; others = done.others; less = done.less }
