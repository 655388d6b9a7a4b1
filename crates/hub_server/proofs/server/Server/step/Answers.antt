use Rattle.hub_server.proofs.RunLemmas.{steps_of_acts, steps_of_feed}
use Rattle.hub_server.proofs.server.Server.step.Goals as goal

pub returns-in-Input-clause-steps : goal.returns-in-Input-clause-steps
returns-in-Input-clause-steps g c =
    steps_of_acts g.E.Endpoint.calls g.H.Handler.does g.H.Handler.fault_reply c.args.limits
    c.args.self.now c.read.new.self c.args.handler.now c.args.endpoint.now c.read.new.endpoint
    (c.read.ensures.acts c.args.limits)

pub returns-in-Output-clause-steps : goal.returns-in-Output-clause-steps
returns-in-Output-clause-steps g c =
    steps_of_acts g.E.Endpoint.calls g.H.Handler.does g.H.Handler.fault_reply c.args.limits
    c.args.self.now c.write.new.self c.args.handler.now c.args.endpoint.now c.write.new.endpoint
    (c.write.ensures.acts c.args.limits)

pub returns-in-Feeding-clause-steps : goal.returns-in-Feeding-clause-steps
returns-in-Feeding-clause-steps g c =
    steps_of_feed g.E.Endpoint.calls g.H.Handler.does g.H.Handler.fault_reply c.args.limits
    c.args.place c.feed.ensures.fed.0 c.feed.ensures.fed.1 c.args.self.now c.feed.new.self
    c.args.handler.now c.feed.new.handler c.args.endpoint.now
    c.feed.ensures.fed.2

pub returns-in-Closing-clause-steps : goal.returns-in-Closing-clause-steps
returns-in-Closing-clause-steps g c =
    steps_of_acts g.E.Endpoint.calls g.H.Handler.does g.H.Handler.fault_reply c.args.limits
    c.args.self.now c.finish.new.self c.args.handler.now c.args.endpoint.now
    c.finish.new.endpoint (c.finish.ensures.acts c.args.limits)
