use Rattle.hub_server.proofs.ServingLemmas.{places_more, places_none, places_over}
use Rattle.hub_server.proofs.server.Server.serve_ready.Goals as goal

pub loop-place-init : goal.loop-place-init
loop-place-init g c = places_none g.H.Handler.does g.H.Handler.fault_reply g.E.Endpoint.calls
    c.args.limits c.places_end-place-end.result c.args.self.now c.args.handler.now
    c.args.endpoint.now c.places_end-place-end.ensures.below

pub loop-place-preserved : goal.loop-place-preserved
loop-place-preserved g c =
    places_more g.H.Handler.does g.H.Handler.fault_reply g.E.Endpoint.calls c.args.limits
    c.places_end-place-end.result c.loop-place.place c.args.self.now c.loop-place.self
    c.serve_place.new.self c.args.handler.now c.loop-place.handler c.serve_place.new.handler
    c.args.endpoint.now c.loop-place.endpoint c.serve_place.new.endpoint c.loop-place-test.true
    c.loop-place.invariant c.serve_place.ensures.steps c.serve_place.ensures.others
    c.serve_place.ensures.over

pub returns-clause-steps : goal.returns-clause-steps
returns-clause-steps g c = c.loop-place.invariant.steps

pub returns-clause-over : goal.returns-clause-over
returns-clause-over g c =
    places_over g.H.Handler.does g.H.Handler.fault_reply g.E.Endpoint.calls c.args.limits
    c.places_end-place-end.result c.loop-place.place c.args.self.now c.loop-place.self
    c.args.handler.now c.loop-place.handler c.args.endpoint.now c.loop-place.endpoint
    c.loop-place-test.false c.loop-place.invariant
