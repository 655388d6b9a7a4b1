use Rattle.std.proofs.lemmas.Bool.{iff_false}
use Rattle.hub_server.proofs.ServingLemmas.{place_none, place_on}
use Rattle.hub_server.proofs.server.Server.serve_place.Goals as goal

pub loop-alloc-init : goal.loop-alloc-init
loop-alloc-init g c = place_none g.H.Handler.does g.H.Handler.fault_reply g.E.Endpoint.calls
    c.args.limits c.args.place c.args.self.now c.args.handler.now c.args.endpoint.now

pub step-requires : goal.step-requires
step-requires g c = c.has_turn.ensures.0 c.loop-alloc-test.true

pub loop-alloc-preserved : goal.loop-alloc-preserved
loop-alloc-preserved g c =
    place_on g.H.Handler.does g.H.Handler.fault_reply g.E.Endpoint.calls c.args.limits c.args.place
    c.args.self.now c.loop-alloc.self c.step.new.self c.args.handler.now c.loop-alloc.handler
    c.step.new.handler
    c.args.endpoint.now c.loop-alloc.endpoint c.step.new.endpoint c.loop-alloc.invariant
    c.step.ensures.steps c.step.ensures.others

pub loop-alloc-smaller : goal.loop-alloc-smaller
loop-alloc-smaller g c = c.step.ensures.less

pub returns-clause-steps : goal.returns-clause-steps
returns-clause-steps g c = c.loop-alloc.invariant.steps

pub returns-clause-others : goal.returns-clause-others
returns-clause-others g c = c.loop-alloc.invariant.others

pub returns-clause-over : goal.returns-clause-over
returns-clause-over g c = iff_false c.has_turn.ensures c.loop-alloc-test.false
